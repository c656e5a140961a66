use Rattle.tsn_timing.proofs.Lagging.{IsLeastAfter}
use Rattle.tsn_timing.proofs.timing.Timing.least_after.Given as goal

abbrev pub invariant-loop-second : goal.invariant-loop-second
invariant-loop-second l = IsLeastAfter l.self l.stream l.first l.above l.below l.second-items l.second-index l.least
