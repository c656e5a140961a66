use Rattle.std.proofs.Common.{◌≡◌, ◌<◌, ℕ}
use Rattle.tsn_model.specs.Network.{stream_count}
use Rattle.tsn_replay.specs.Faults.{HasListedRoute}
use Rattle.tsn_replay.proofs.conditions.all_used_listed.Given as goal

abbrev pub invariant-loop-stream : goal.invariant-loop-stream
invariant-loop-stream l = record {
  done : (i : ℕ) → i < l.stream → HasListedRoute l.network l.lists i;
  last : l.stream-end ≡ stream_count l.network;
}
