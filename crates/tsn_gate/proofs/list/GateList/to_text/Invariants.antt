use Rattle.std.proofs.Common.{◌≡◌, take, string_bytes}
use Rattle.tsn_gate.proofs.Tables.{lines_of}
use Rattle.tsn_gate.proofs.list.GateList.to_text.Given as goal

abbrev pub invariant-loop-entry : goal.invariant-loop-entry
invariant-loop-entry l = string_bytes l.text ≡ lines_of l.problem l.self (take l.entry-index l.self.entries)
