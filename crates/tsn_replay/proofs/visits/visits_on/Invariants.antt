use Rattle.std.proofs.Common.{◌≡◌}
use Rattle.tsn_model.specs.Network.{stream_count}
use Rattle.tsn_replay.specs.Frames.{visits_below}
use Rattle.tsn_replay.proofs.Visited.{AreVisitsBelow}
use Rattle.tsn_replay.proofs.visits.visits_on.Given as goal

abbrev pub invariant-loop-stream : goal.invariant-loop-stream
invariant-loop-stream l = record {
  visits : AreVisitsBelow l.network l.link l.stream l.visits.items;
  first : l.first ≡ visits_below l.network l.stream;
  last : l.stream-end ≡ stream_count l.network;
}
