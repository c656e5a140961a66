use Rattle.std.proofs.Common.{◌≡◌, ℕ, Bool, List, drop, map, not}
use Rattle.std.specs.List.{find, flat_map}
use Rattle.toml.specs.View.{view}
use Rattle.tsn_net.specs.DocumentView.{routes_view}
use Rattle.tsn_net.specs.Conditions.{has_cable, neighbours}
use Rattle.tsn_net.proofs.routes.gap_along.Given as goal

-- what is found first along the rest is so along all
abbrev pub invariant-loop-route : goal.invariant-loop-route
invariant-loop-route l =
    let test : List ℕ × List ℕ → Bool = λ p. not (has_cable (map view l.document.cables.now) p) in
    find test (flat_map neighbours (routes_view (drop l.route-index l.routes))) ≡ find test (flat_map neighbours (routes_view l.routes))
