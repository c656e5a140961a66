use Rattle.std.proofs.Common.{◌≡◌, ℕ, Bool, List, drop, map, not}
use Rattle.std.specs.List.{find, flat_map}
use Rattle.toml.specs.View.{view}
use Rattle.tsn_net.specs.DocumentView.{routes_view}
use Rattle.tsn_net.specs.Conditions.{has_name}
use Rattle.tsn_net.proofs.names.unknown_along.Given as goal

-- what is found first along the rest is so along all
abbrev pub invariant-loop-route : goal.invariant-loop-route
invariant-loop-route l =
    let test : List ℕ → Bool = λ n. not (has_name (map view l.document.nodes.now) n) in
    find test (flat_map (λ names. names) (routes_view (drop l.route-index l.routes))) ≡ find test (flat_map (λ names. names) (routes_view l.routes))
