use Rattle.std.proofs.Common.{◌≡◌, ◌<◌, ℕ}
use Rattle.tsn_model.specs.Network.{stream_count}
use Rattle.tsn_branch.specs.Look.{IsDone}
use Rattle.tsn_branch.proofs.instants.first_overrun.Given as goal

abbrev pub invariant-loop-stream : goal.invariant-loop-stream
invariant-loop-stream l = record {
  done : (j : ℕ) → j < l.stream → IsDone l.timing l.offsets j;
  end : l.stream-end ≡ stream_count l.timing;
}
