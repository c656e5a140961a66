use Rattle.std.proofs.Common.{◌≡◌, ℕ, ◌<◌}
use Rattle.tsn_model.specs.Argument.{divisor_within, common_divisor}
use Rattle.tsn_sums.proofs.divisor.common_divisor.Given as goal

abbrev pub invariant-loop-lesser : goal.invariant-loop-lesser
invariant-loop-lesser l = (steps : ℕ) × (l.lesser < steps) × (divisor_within steps l.greater l.lesser ≡ common_divisor l.fn.a l.fn.b)

abbrev pub decreases-loop-lesser : goal.decreases-loop-lesser
decreases-loop-lesser l = l.lesser
