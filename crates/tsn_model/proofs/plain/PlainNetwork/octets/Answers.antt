use Rattle.std.proofs.Common.{ap, ◌∙◌}
use Rattle.tsn_model.specs.Network.{Network}
use Rattle.tsn_model.proofs.Readings.{octets_read}
use Rattle.tsn_model.proofs.plain.PlainNetwork.octets.Goals as goal

pub returns : goal.returns
returns c =
    c.octets.ensures
    ∙ octets_read c.args.self.now c.self.inside.streams.items c.args.i c.index.result.now (ap (λ (n : Network). n.streams) c.self.view_is) c.requires c.index.ensures
