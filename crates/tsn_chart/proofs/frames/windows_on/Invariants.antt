use Rattle.std.proofs.Common.{◌≡◌, ◌≤◌}
use Rattle.tsn_model.specs.Network.{stream_count}
use Rattle.tsn_chart.proofs.Counting.{frames_upto, windows_upto}
use Rattle.tsn_chart.proofs.frames.windows_on.Given as goal

abbrev pub invariant-loop-stream : goal.invariant-loop-stream
invariant-loop-stream l = record {
  so_far : l.windows ≡ windows_upto l.network l.link l.stream;
  few : l.windows ≤ frames_upto l.network l.stream;
  last : l.stream-end ≡ stream_count l.network;
}
