use Rattle.std.proofs.Common.{◌≡◌, ◌<◌, ℕ}
use Rattle.tsn_model.specs.Network.{period_of, burst_of}
use Rattle.tsn_timing.proofs.Sending.{Placed}
use Rattle.tsn_timing.proofs.timing.Timing.is_shift.Given as goal

abbrev pub invariant-loop-place : goal.invariant-loop-place
invariant-loop-place l = record {
  none : (place : ℕ) → place < l.place → Placed l.self l.stream l.shift place → ⊥;
  end : l.place-end ≡ burst_of l.self l.stream;
  period : l.period ≡ period_of l.self l.stream;
}
