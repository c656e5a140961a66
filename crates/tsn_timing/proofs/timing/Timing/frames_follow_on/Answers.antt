use Rattle.std.proofs.Common.{All, AllPairs, sym, subst, arith}
use Rattle.std.proofs.lemmas.Grind.{common_steps}
use Rattle.tsn_timing.specs.Neighbours.{IsBefore}
use Rattle.tsn_timing.proofs.Neighbouring.{IsInOrder, sorted, apart_from_following}
use Rattle.tsn_timing.proofs.timing.Timing.frames_follow_on.Goals as goal

pub each_before_next-requires : goal.each_before_next-requires
each_before_next-requires c =
    let are = sorted c.args.self.now c.args.offsets.now c.args.link c.push_slots.new.slots.items c.sort_unstable_by_key.new.self.items
    c.sort_unstable_by_key.ensures.permutation c.in-Ok.ensures in
    subst (All IsInOrder) (sym c.deref.ensures.value) are.in_order

pub returns : goal.returns
returns c =
    λ yes.
    let are = sorted c.args.self.now c.args.offsets.now c.args.link c.push_slots.new.slots.items c.sort_unstable_by_key.new.self.items
    c.sort_unstable_by_key.ensures.permutation c.in-Ok.ensures in
    apart_from_following c.args.self.now c.args.offsets.now c.args.link c.sort_unstable_by_key.new.self.items are
    (subst (AllPairs IsBefore) c.deref.ensures.value (c.each_before_next.ensures yes))

pub push_slots-requires-clause-empty : goal.push_slots-requires-clause-empty
push_slots-requires-clause-empty c = grind (arith, common_steps) steps 2000000
