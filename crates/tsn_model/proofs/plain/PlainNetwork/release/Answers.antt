use Rattle.std.proofs.Common.{◌∙◌, ap, subst, arith}
use Rattle.tsn_model.specs.Network.{Network, IsWellFormed}
use Rattle.tsn_model.proofs.Limits.{release-le}
use Rattle.tsn_model.proofs.Readings.{release_read}
use Rattle.tsn_model.proofs.plain.PlainNetwork.release.Goals as goal

pub returns : goal.returns
returns c =
    let release = release_read c.args.self.now c.self.inside.streams.items c.args.i c.index.result.now (ap (λ (n : Network). n.streams) c.self.view_is) c.requires c.index.ensures in
    let value = c.release.ensures ∙ release in
    let below = release-le c.args.self.now (subst IsWellFormed c.self.view_is c.self.invariant) c.args.i c.requires in
    record { value = value; bound = omega arith }
