use Rattle.std.proofs.Common.{take}
use Rattle.tsn_gate.specs.Entries.{AllLast}
use Rattle.tsn_gate.proofs.list.all_last.Given as goal

abbrev pub invariant-loop-entry : goal.invariant-loop-entry
invariant-loop-entry l = AllLast l.least (take l.entry-index l.entries)
