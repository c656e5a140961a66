use Rattle.tsn_timing.proofs.Lagging.{IsLeastSoFar}
use Rattle.tsn_timing.proofs.timing.Timing.least_lag.Given as goal

abbrev pub invariant-loop-first : goal.invariant-loop-first
invariant-loop-first l = IsLeastSoFar l.self l.left l.right l.above l.below l.first-index l.least
