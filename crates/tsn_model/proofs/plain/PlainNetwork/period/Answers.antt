use Rattle.std.proofs.Common.{◌/◌, ap, ap₂}
use Rattle.tsn_model.specs.Network.{Network, period_of}
use Rattle.tsn_model.proofs.plain.PlainNetwork.period.Goals as goal

pub returns-clause-value : goal.returns-clause-value
unfolding period_of
returns-clause-value c = ap₂ (λ a b. a / b) (ap (λ (n : Network). n.cycle) c.self.view_is) c.turns.ensures.value
