use Rattle.tsn_branch.proofs.Raised.{IsLastAmong}
use Rattle.tsn_branch.proofs.instants.last_arrival_among.Given as goal

abbrev pub invariant-loop-stream : goal.invariant-loop-stream
invariant-loop-stream l = record {
  so_far : IsLastAmong l.timing l.offsets l.raised l.stream-index l.last l.end;
}
