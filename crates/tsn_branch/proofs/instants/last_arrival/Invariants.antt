use Rattle.std.proofs.Common.{◌≡◌}
use Rattle.tsn_model.specs.Network.{stream_count}
use Rattle.tsn_branch.proofs.Arrivals.{IsLastSoFar}
use Rattle.tsn_branch.proofs.instants.last_arrival.Given as goal

abbrev pub invariant-loop-stream : goal.invariant-loop-stream
invariant-loop-stream l = record {
  last : IsLastSoFar l.timing l.offsets l.stream l.last l.end;
  all : l.streams ≡ stream_count l.timing;
}
