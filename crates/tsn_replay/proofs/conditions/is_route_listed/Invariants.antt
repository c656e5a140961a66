use Rattle.std.proofs.Common.{◌≡◌, ◌<◌, ℕ}
use Rattle.tsn_model.specs.Network.{hop_count, route_link}
use Rattle.tsn_replay.specs.Faults.{IsListed}
use Rattle.tsn_replay.proofs.conditions.is_route_listed.Given as goal

abbrev pub invariant-loop-hop : goal.invariant-loop-hop
invariant-loop-hop l = record {
  done : (k : ℕ) → k < l.hop → IsListed l.lists (route_link l.network l.stream k);
  last : l.hop-end ≡ hop_count l.network l.stream;
}
