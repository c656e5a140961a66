use Rattle.tsn_gate.proofs.Widening.{IsShown}
use Rattle.tsn_gate.proofs.widened.widened.Given as goal

abbrev pub invariant-loop-index : goal.invariant-loop-index
invariant-loop-index l = IsShown l.least l.entries l.kept l.index l.timeline.entries.items l.timeline.end
