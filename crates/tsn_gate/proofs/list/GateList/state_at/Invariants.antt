use Rattle.std.proofs.Common.{◌≡◌, ◌+◌, ◌%◌, take}
use Rattle.tsn_model.specs.Gates.{cycle_of}
use Rattle.tsn_gate.proofs.list.GateList.state_at.Given as goal

abbrev pub invariant-loop-entry : goal.invariant-loop-entry
invariant-loop-entry l = cycle_of (take l.entry-index l.self.entries) + l.left ≡ l.t % cycle_of l.self.entries
