use Rattle.std.proofs.Common.{◌≡◌, ◌<◌, ◌%◌, suc, refl, sym, ap, ◌∙◌, arith}
use Rattle.std.proofs.Math.Nat.{mod-lt}
use Rattle.tsn_model.specs.Argument.{divisor_within, common_divisor}
use Rattle.tsn_sums.proofs.Divisors.{next_step, last_step}
use Rattle.tsn_sums.proofs.divisor.common_divisor.Goals as goal

pub loop-lesser-init : goal.loop-lesser-init
unfolding common_divisor
loop-lesser-init c = (suc c.args.b, omega arith, refl)

pub loop-lesser-preserved : goal.loop-lesser-preserved
loop-lesser-preserved c =
    let old = c.loop-lesser.invariant in
    let some = c.loop-lesser-test.true in
    let next = next_step old.0 c.loop-lesser.greater c.loop-lesser.lesser some old.1 in
    let less : c.loop-lesser.greater % c.loop-lesser.lesser < c.loop-lesser.lesser = mod-lt c.loop-lesser.greater {m = c.loop-lesser.lesser} some in
    let enough = next.1 in
    (next.0, omega (arith, less, enough), sym next.2 ∙ old.2)

pub returns : goal.returns
returns c =
    let old = c.loop-lesser.invariant in
    let none : c.loop-lesser.lesser ≡ 0 = omega (arith, c.loop-lesser-test.false) in
    sym (last_step old.0 c.loop-lesser.greater) ∙ ap (λ n. divisor_within old.0 c.loop-lesser.greater n) (sym none) ∙ old.2
