use Rattle.std.proofs.Common.{◌-◌, ◌*◌, ap₂}
use Rattle.tsn_model.specs.Timing.{spread}
use Rattle.tsn_model.proofs.plain.PlainNetwork.spread.Goals as goal

pub returns-clause-value : goal.returns-clause-value
unfolding spread
returns-clause-value c = ap₂ (λ b p. (b - 1) * p) c.burst.ensures.value c.pace.ensures.value
