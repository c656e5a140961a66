use Rattle.std.proofs.Common.{◌≡◌, ◌==◌, false, take}
use Rattle.std.specs.List.{list_any}
use Rattle.tsn_model.specs.Network.{link_at, route_of, hop_count}
use Rattle.tsn_timing.proofs.ends.goes_on.Given as goal

abbrev pub invariant-loop-hop : goal.invariant-loop-hop
invariant-loop-hop l = record {
  so_far : list_any (λ link. (link_at l.timing link).from == l.node) (take l.hop (route_of l.timing l.stream)) ≡ false;
  last : l.hop-end ≡ hop_count l.timing l.stream;
}
