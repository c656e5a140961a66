use Rattle.std.proofs.Common.{ap, arith}
use Rattle.tsn_model.specs.Gates.{cycle_of}
use Rattle.tsn_gate.proofs.Playing.{cycle_of-pos}
use Rattle.tsn_gate.proofs.list.GateList.cycle.Goals as goal

pub returns-clause-some : goal.returns-clause-some
returns-clause-some c =
    let some = cycle_of-pos c.self.inside.entries.items c.self.invariant.some_entry c.self.invariant.positive in
    let same = ap cycle_of c.deref.ensures.value in
    omega arith
