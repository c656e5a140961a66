use Rattle.std.proofs.Common.{◌≡◌, drop, map}
use Rattle.std.specs.List.{find}
use Rattle.toml.specs.View.{view}
use Rattle.tsn_net.specs.DocumentView.{routes_view}
use Rattle.tsn_net.specs.Conditions.{is_no_way}
use Rattle.tsn_net.proofs.routes.no_way_in.Given as goal

-- the first of the rest that is no way is that of all
abbrev pub invariant-loop-route : goal.invariant-loop-route
invariant-loop-route l =
    find (is_no_way (map view l.document.nodes.now)) (routes_view (drop l.route-index l.routes))
    ≡ find (is_no_way (map view l.document.nodes.now)) (routes_view l.routes)
