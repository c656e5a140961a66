use Rattle.std.proofs.Common.{◌≡◌, ◌∙◌, subst, refl, arith, ℤ, pos, ◌+ℤ◌, ◌≤ℤ◌, to_z, of_z, w64}
use Rattle.std.specs.Int.{int_min}
use Rattle.std.proofs.lemmas.Int.{ints, to_z-of_z}
use Rattle.std.proofs.lemmas.List.{length-take, take_all}
use Rattle.std.proofs.lemmas.Result.{err_from_is_err_and}
use Rattle.tsn_check.specs.Turns.{decisions}
use Rattle.tsn_check.specs.Faults.{IsFirstWrong}
use Rattle.tsn_check.proofs.Loads.{no_entries, start_load, more_load, wrong_there}
use Rattle.tsn_check.proofs.load.link_load.Goals as goal

kept : (z : ℤ) → pos 0 ≤ℤ (z +ℤ pos 200000000000) → z ≤ℤ pos 200000000000 → to_z w64 (of_z w64 z) ≡ z
kept z low high = to_z-of_z w64 z (omega (arith, ints))

kept_tail : (z : ℤ) → pos 0 ≤ℤ (z +ℤ pos 1240000000) → z ≤ℤ pos 230000000 → to_z w64 (of_z w64 z) ≡ z
kept_tail z low high = to_z-of_z w64 z (omega (arith, ints))

pub returns-in_err-next : goal.returns-in_err-next
returns-in_err-next c =
    let p = err_from_is_err_and c.from_residual-in_err-next.result c.from_residual-in_err-next.ensures.1 in
    let network = c.args.timing.now in
    let path = decisions c.args.path.now in
    let fault = c.in_err-next.field-0.0 in
    let wrong = wrong_there network path c.args.link c.list-list.result.now c.loop-number.number c.index-list-number.result fault (omega arith) c.index-list-number.is
    c.loop-number.invariant.right c.in_err-next.ensures in
    rw (p.1, p.2) (subst (λ es. IsFirstWrong network path c.args.link es fault) c.list-list.ensures.parts wrong)

pub overflow_add-all : goal.overflow_add-all
overflow_add-all c =
    let all = c.loop-number.invariant.loaded.short_work in
    let next = c.in_ok-next.ensures.1.short_work in
    let few = c.list-list.ensures.few in
    omega (arith, length-take c.loop-number.number c.list-list.result.now)

pub loop-number-init : goal.loop-number-init
loop-number-init c =
    let found = start_load c.args.timing.now (decisions c.args.path.now) c.args.link c.list-list.result.now c.index-list-0.result c.in_ok-all.all c.list-list.ensures.some c.index-list-0.is
    c.in_ok-all.ensures.0 c.in_ok-all.ensures.1 in
    record { right = found.0; loaded = found.1 }

pub loop-number-preserved : goal.loop-number-preserved
loop-number-preserved c =
    let all = c.loop-number.invariant.loaded in
    let next = c.in_ok-next.ensures.1 in
    let head : c.min.result ≡ int_min c.loop-number.all.head c.in_ok-next.next.head =
    c.min.ensures.value ∙ (λ i. int_min (kept c.loop-number.all.head all.low_head all.high_head i) (kept c.in_ok-next.next.head next.low_head next.high_head i)) in
    let tail : c.min-in-loop-number.result ≡ int_min c.loop-number.all.tail c.in_ok-next.next.tail =
    c.min-in-loop-number.ensures.value ∙ (λ i. int_min (kept_tail c.loop-number.all.tail all.low_tail all.high_tail i) (kept_tail c.in_ok-next.next.tail next.low_tail next.high_tail i)) in
    let found = more_load c.args.timing.now (decisions c.args.path.now) c.args.link c.list-list.result.now c.loop-number.number c.index-list-number.result c.loop-number.all c.in_ok-next.next _
    (omega arith) (omega arith) c.index-list-number.is c.loop-number.invariant.right c.loop-number.invariant.loaded c.in_ok-next.ensures.0 c.in_ok-next.ensures.1
    (to_z-of_z w64 c.min.result (omega (arith, ints)) ∙ head) refl (to_z-of_z w64 c.min-in-loop-number.result (omega (arith, ints)) ∙ tail) in
    record { right = found.0; loaded = found.1 }

pub returns : goal.returns
returns c = grind (arith, take_all, length-take)

pub returns-in_err-all : goal.returns-in_err-all
returns-in_err-all c =
    let p = err_from_is_err_and c.from_residual.result c.from_residual.ensures.1 in
    let network = c.args.timing.now in
    let path = decisions c.args.path.now in
    let fault = c.in_err-all.field-0.0 in
    let wrong = wrong_there network path c.args.link c.list-list.result.now 0 c.index-list-0.result fault c.list-list.ensures.some c.index-list-0.is
    (no_entries network path c.args.link) c.in_err-all.ensures in
    rw (p.1, p.2) (subst (λ es. IsFirstWrong network path c.args.link es fault) c.list-list.ensures.parts wrong)
