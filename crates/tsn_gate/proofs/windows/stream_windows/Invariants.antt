use Rattle.tsn_gate.proofs.Occupancies.{AreWindowsBelow}
use Rattle.tsn_gate.proofs.windows.stream_windows.Given as goal

abbrev pub invariant-loop-stream : goal.invariant-loop-stream
invariant-loop-stream l = AreWindowsBelow l.timing l.offsets l.link l.stream l.windows.items
