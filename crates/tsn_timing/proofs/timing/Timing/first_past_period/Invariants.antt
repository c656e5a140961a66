use Rattle.std.proofs.Common.{◌≡◌, ◌<◌, ℕ}
use Rattle.tsn_model.specs.Network.{stream_count}
use Rattle.tsn_model.specs.Schedule.{FitsPeriod}
use Rattle.tsn_timing.proofs.timing.Timing.first_past_period.Given as goal

abbrev pub invariant-loop-stream : goal.invariant-loop-stream
invariant-loop-stream l = record {
  fit : (j : ℕ) → j < l.stream → FitsPeriod l.self l.offsets j;
  end : l.stream-end ≡ stream_count l.self;
}
