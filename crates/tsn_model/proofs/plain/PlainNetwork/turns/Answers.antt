use Rattle.std.proofs.Common.{◌∙◌, ap, subst, arith}
use Rattle.tsn_model.specs.Network.{Network, IsWellFormed}
use Rattle.tsn_model.proofs.Shifts.{turns-pos}
use Rattle.tsn_model.proofs.Readings.{turns_read}
use Rattle.tsn_model.proofs.plain.PlainNetwork.turns.Goals as goal

pub returns : goal.returns
returns c =
    let turns = turns_read c.args.self.now c.self.inside.streams.items c.args.i c.index.result.now
    (ap (λ (n : Network). n.streams) c.self.view_is) c.requires c.index.ensures in
    let value = c.turns.ensures ∙ turns in
    let above = turns-pos c.args.self.now c.args.i (subst IsWellFormed c.self.view_is c.self.invariant) c.requires in
    record { value = value; some = omega arith }
