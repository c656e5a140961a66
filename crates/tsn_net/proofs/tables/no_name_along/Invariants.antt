use Rattle.std.proofs.Common.{◌≡◌, ℕ, Bool, List, drop, not}
use Rattle.std.specs.List.{find, flat_map}
use Rattle.tsn_net.specs.DocumentView.{routes_view}
use Rattle.tsn_net.specs.Conditions.{is_name}
use Rattle.tsn_net.proofs.tables.no_name_along.Given as goal

-- what is found first along the rest is so along all
abbrev pub invariant-loop-route : goal.invariant-loop-route
invariant-loop-route l =
    let test : List ℕ → Bool = λ t. not (is_name t) in
    find test (flat_map (λ names. names) (routes_view (drop l.route-index l.routes))) ≡ find test (flat_map (λ names. names) (routes_view l.routes))
