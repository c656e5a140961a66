use Rattle.std.proofs.Common.{◌≡◌, ◌+◌, ◌<◌, ℕ, List, All, Contains, pos, ◌+ℤ◌, get_or, to_z, of_z, w64, arith, sym, subst, length}
use Rattle.std.proofs.lemmas.Int.{ints}
use Rattle.std.proofs.lemmas.List.{get_or_default}
use Rattle.tsn_model.specs.Schedule.{offset_of}
use Rattle.tsn_branch.specs.declared.loads.User.{User}
use Rattle.tsn_branch.specs.Loads.{IsEarly}
use Rattle.tsn_branch.proofs.loads.is_calm.Goals as goal

abbrev no_user : User
no_user = record { stream = 0; start = 0 }

at_place : (users : List User) (k : ℕ) → k < length users → Contains users (get_or users k no_user)
at_place users k below = (k, below, get_or_default users k (get_or users k no_user) no_user below)

pub returns-then-bound-lt0 : goal.returns-then-bound-lt0
returns-then-bound-lt0 c = λ yes.
    let users = c.deref-user-items.result.now in
    let user = get_or users c.loop-user.user-index no_user in
    let there = subst (λ us. Contains us user) c.deref-user-items.ensures.value (at_place users c.loop-user.user-index c.loop-user-test.true) in
    let early = subst (All (IsEarly (length c.args.offsets.now))) (sym c.deref-user-items.ensures.value) c.requires.users c.loop-user.user-index no_user c.loop-user-test.true in
    let start = early.early in
    let small = c.requires.small user.stream 0 early.counted in
    let work = c.requires.short_work in
    let low = c.requires.low_tail in
    let high = c.requires.high_tail in
    let busy : ℕ = offset_of c.args.offsets.now user.stream + user.start + c.args.table.now.work in
    let computed : to_z w64 (of_z w64 (to_z w64 busy +ℤ to_z w64 (of_z w64 c.args.table.now.tail))) ≡ pos busy +ℤ c.args.table.now.tail = omega (arith, ints) in
    let negative = c.if-bound-lt0.true in
    record { user = user; there = there; done = c.if-cycle-busy.false; sooner = omega (arith, ints, computed, negative) }

pub returns-then-bound-target : goal.returns-then-bound-target
returns-then-bound-target c = λ yes.
    let users = c.deref-user-items.result.now in
    let user = get_or users c.loop-user.user-index no_user in
    let there = subst (λ us. Contains us user) c.deref-user-items.ensures.value (at_place users c.loop-user.user-index c.loop-user-test.true) in
    let early = subst (All (IsEarly (length c.args.offsets.now))) (sym c.deref-user-items.ensures.value) c.requires.users c.loop-user.user-index no_user c.loop-user-test.true in
    let start = early.early in
    let small = c.requires.small user.stream 0 early.counted in
    let work = c.requires.short_work in
    let low = c.requires.low_tail in
    let high = c.requires.high_tail in
    let busy : ℕ = offset_of c.args.offsets.now user.stream + user.start + c.args.table.now.work in
    let computed : to_z w64 (of_z w64 (to_z w64 busy +ℤ to_z w64 (of_z w64 c.args.table.now.tail))) ≡ pos busy +ℤ c.args.table.now.tail = omega (arith, ints) in
    let natural = c.if-bound-lt0.false in
    let below = c.if-bound-target.true in
    record { user = user; there = there; done = c.if-cycle-busy.false; sooner = omega (arith, ints, computed, natural, below) }
