use Rattle.tsn_branch.specs.Bound.{IsLowerBound}
use Rattle.tsn_branch.proofs.bound.least_arrival.Given as goal

abbrev pub invariant-loop-stream : goal.invariant-loop-stream
invariant-loop-stream l = IsLowerBound l.timing l.bound
