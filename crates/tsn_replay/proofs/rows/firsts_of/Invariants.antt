use Rattle.std.proofs.Common.{◌≡◌}
use Rattle.tsn_model.specs.Network.{stream_count}
use Rattle.tsn_replay.proofs.Counting.{AreFirstsUpto}
use Rattle.tsn_replay.proofs.rows.firsts_of.Given as goal

abbrev pub invariant-loop-stream : goal.invariant-loop-stream
invariant-loop-stream l = record {
  firsts : AreFirstsUpto l.timing l.stream l.firsts.items l.first;
  last : l.stream-end ≡ stream_count l.timing;
}
