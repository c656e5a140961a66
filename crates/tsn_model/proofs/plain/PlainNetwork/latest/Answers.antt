use Rattle.std.proofs.Common.{◌∙◌, ap, subst, arith}
use Rattle.tsn_model.specs.Network.{Network, IsWellFormed}
use Rattle.tsn_model.proofs.Limits.{latest-pos, latest-le}
use Rattle.tsn_model.proofs.Readings.{latest_read}
use Rattle.tsn_model.proofs.plain.PlainNetwork.latest.Goals as goal

pub returns : goal.returns
returns c =
    let latest = latest_read c.args.self.now c.self.inside.streams.items c.args.i c.index.result.now (ap (λ (n : Network). n.streams) c.self.view_is) c.requires c.index.ensures in
    let value = c.latest.ensures ∙ latest in
    let formed = subst IsWellFormed c.self.view_is c.self.invariant in
    let above = latest-pos c.args.self.now formed c.args.i c.requires in
    let below = latest-le c.args.self.now formed c.args.i c.requires in
    record { value = value; some = omega arith; bound = omega arith }
