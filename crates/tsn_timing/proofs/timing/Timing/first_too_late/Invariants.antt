use Rattle.std.proofs.Common.{◌≡◌, ◌<◌, ℕ}
use Rattle.tsn_model.specs.Network.{stream_count}
use Rattle.tsn_model.specs.Schedule.{IsInTime}
use Rattle.tsn_timing.proofs.timing.Timing.first_too_late.Given as goal

abbrev pub invariant-loop-stream : goal.invariant-loop-stream
invariant-loop-stream l = record {
  in_time : (j : ℕ) → j < l.stream → IsInTime l.self l.offsets j;
  end : l.stream-end ≡ stream_count l.self;
}
