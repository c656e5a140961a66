use Rattle.std.proofs.Common.{ap}
use Rattle.tsn_model.specs.Network.{Network}
use Rattle.tsn_model.proofs.Readings.{link_read}
use Rattle.tsn_model.proofs.plain.PlainNetwork.link.Goals as goal

pub returns : goal.returns
returns c = link_read c.args.self.now c.self.inside.links.items c.args.link c.index.result.now (ap (λ (n : Network). n.links) c.self.view_is) c.requires c.index.ensures
