use Rattle.std.proofs.Common.{MatchOption}
use Rattle.tsn_branch.proofs.Raised.{FitSoFar, IsFirstSoFar}
use Rattle.tsn_branch.proofs.instants.first_overrun_among.Given as goal

abbrev pub invariant-loop-stream : goal.invariant-loop-stream
invariant-loop-stream l = record {
  so_far : MatchOption l.first (FitSoFar l.timing l.offsets l.raised l.stream-index) (IsFirstSoFar l.timing l.offsets l.raised l.stream-index);
}
