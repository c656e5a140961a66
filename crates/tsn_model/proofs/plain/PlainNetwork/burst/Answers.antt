use Rattle.std.proofs.Common.{◌∙◌, ap, subst, arith}
use Rattle.tsn_model.specs.Network.{Network, IsWellFormed}
use Rattle.tsn_model.proofs.Shifts.{burst-pos}
use Rattle.tsn_model.proofs.Limits.{burst-le}
use Rattle.tsn_model.proofs.Readings.{burst_read}
use Rattle.tsn_model.proofs.plain.PlainNetwork.burst.Goals as goal

pub returns : goal.returns
returns c =
    let burst = burst_read c.args.self.now c.self.inside.streams.items c.args.i c.index.result.now
    (ap (λ (n : Network). n.streams) c.self.view_is) c.requires c.index.ensures in
    let value = c.burst.ensures ∙ burst in
    let formed = subst IsWellFormed c.self.view_is c.self.invariant in
    let above = burst-pos c.args.self.now c.args.i formed c.requires in
    let below = burst-le c.args.self.now formed c.args.i c.requires in
    record { value = value; some = omega arith; few = omega arith }
