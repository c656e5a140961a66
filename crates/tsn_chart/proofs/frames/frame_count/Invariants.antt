use Rattle.std.proofs.Common.{◌≡◌}
use Rattle.tsn_model.specs.Network.{stream_count}
use Rattle.tsn_chart.proofs.Counting.{frames_upto}
use Rattle.tsn_chart.proofs.frames.frame_count.Given as goal

abbrev pub invariant-loop-stream : goal.invariant-loop-stream
invariant-loop-stream l = record { so_far : l.frames ≡ frames_upto l.network l.stream; last : l.stream-end ≡ stream_count l.network }
