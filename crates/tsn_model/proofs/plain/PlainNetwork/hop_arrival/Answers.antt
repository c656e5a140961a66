use Rattle.std.proofs.Common.{◌+◌, ◌∙◌, ap, ap₂}
use Rattle.tsn_model.specs.Timing.{transfer, hop_arrival}
use Rattle.tsn_model.proofs.plain.PlainNetwork.hop_arrival.Goals as goal

pub returns-clause-value : goal.returns-clause-value
unfolding hop_arrival
returns-clause-value c =
    ap₂ (λ a b. a + b) (ap₂ (λ a b. a + b) c.start.ensures.value c.spread.ensures.value)
    (c.transfer.ensures.value ∙ ap (transfer c.args.self.now c.args.i) c.route_link.ensures.value)
