use Rattle.std.proofs.Common.{◌≡◌, ◌++◌, map, get_or, arith}
use Rattle.std.proofs.lemmas.List.{get_or_default}
use Rattle.tsn_model.specs.Timing.{shifts}
use Rattle.tsn_timing.specs.Neighbours.{later}
use Rattle.tsn_timing.proofs.Using.{no_user, user_counted}
use Rattle.tsn_timing.proofs.Neighbouring.{none_so_far, one_user_more, all_so_far}
use Rattle.tsn_timing.proofs.timing.Timing.push_slots.Goals as goal

pub loop-user-init : goal.loop-user-init
loop-user-init c = none_so_far c.args.self.now c.args.offsets.now c.args.link c.users-user-items.result.now _ c.requires.empty

pub bounds-offsets-user : goal.bounds-offsets-user
bounds-offsets-user c =
    let counted = (user_counted c.args.self.now c.args.link _ _ (c.users-user-items.ensures.hops c.loop-user.user-index no_user c.loop-user-test.true)).0 in
    omega arith

pub offset_bounds-offsets-user : goal.offset_bounds-offsets-user
offset_bounds-offsets-user c =
    let counted = (user_counted c.args.self.now c.args.link _ _ (c.users-user-items.ensures.hops c.loop-user.user-index no_user c.loop-user-test.true)).0 in
    let few = c.cycle-limits.ensures.well_formed.few_streams in
    omega arith

pub first_slot-first-requires-clause-stream : goal.first_slot-first-requires-clause-stream
first_slot-first-requires-clause-stream c =
    (user_counted c.args.self.now c.args.link _ _ (c.users-user-items.ensures.hops c.loop-user.user-index no_user c.loop-user-test.true)).0

pub first_slot-first-requires-clause-hop : goal.first_slot-first-requires-clause-hop
first_slot-first-requires-clause-hop c =
    (user_counted c.args.self.now c.args.link _ _ (c.users-user-items.ensures.hops c.loop-user.user-index no_user c.loop-user-test.true)).1

pub shifts-requires : goal.shifts-requires
shifts-requires c =
    (user_counted c.args.self.now c.args.link _ _ (c.users-user-items.ensures.hops c.loop-user.user-index no_user c.loop-user-test.true)).0

pub loop-user-preserved : goal.loop-user-preserved
loop-user-preserved c =
    let network = c.args.self.now in
    let users = c.users-user-items.result.now in
    let n = c.loop-user.user-index in
    let user = get_or users n no_user in
    let inside = c.loop-user-test.true in
    let first = c.first_slot-first.result in
    let now : c.push_later.new.slots.items ≡ c.loop-user.slots.items ++ map (later first) (shifts network user.stream) = cc c.in_ok-push_later.ensures in
    rw now (one_user_more network c.args.offsets.now c.args.link users n user c.loop-user.slots.items first (get_or_default users n no_user user inside) inside
    c.first_slot-first.ensures.value c.first_slot-first.ensures.order c.loop-user.invariant)

pub returns : goal.returns
returns c =
    all_so_far c.args.self.now c.args.offsets.now c.args.link c.cycle-limits.ensures.well_formed c.users-user-items.result.now c.loop-user.user-index _
    c.loop-user-test.false c.users-user-items.ensures.all c.loop-user.invariant
