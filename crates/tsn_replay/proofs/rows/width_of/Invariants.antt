use Rattle.std.proofs.Common.{◌≡◌, ℕ, ◌≤◌, ◌<◌}
use Rattle.tsn_model.specs.Network.{stream_count, hop_count}
use Rattle.tsn_replay.proofs.rows.width_of.Given as goal

abbrev pub invariant-loop-stream : goal.invariant-loop-stream
invariant-loop-stream l = record {
  covers : (i : ℕ) → i < l.stream → hop_count l.timing i ≤ l.width;
  few : l.width ≤ 64;
  last : l.stream-end ≡ stream_count l.timing;
}
