use Rattle.tsn_branch.specs.Bound.{IsLowerBound}
use Rattle.tsn_branch.proofs.bound.lower_bound.Given as goal

abbrev pub invariant-loop : goal.invariant-loop
invariant-loop l = IsLowerBound l.tables.timing.now l.bound
