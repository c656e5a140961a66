use Rattle.std.proofs.Common.{◌≡◌, take}
use Rattle.tsn_model.specs.Gates.{cycle_of}
use Rattle.tsn_gate.proofs.list.total.Given as goal

abbrev pub invariant-loop-entry : goal.invariant-loop-entry
invariant-loop-entry l = l.time ≡ cycle_of (take l.entry-index l.entries)
