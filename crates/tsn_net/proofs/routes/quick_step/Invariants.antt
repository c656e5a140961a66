use Rattle.std.proofs.Common.{◌≡◌, drop, map}
use Rattle.std.specs.List.{find, flat_map}
use Rattle.toml.specs.View.{view}
use Rattle.tsn_net.specs.DocumentView.{routes_view}
use Rattle.tsn_net.specs.Conditions.{is_quick, followed}
use Rattle.tsn_net.proofs.routes.quick_step.Given as goal

-- what is found first along the rest is so along all
abbrev pub invariant-loop-route : goal.invariant-loop-route
invariant-loop-route l =
    let test = is_quick l.slack l.octets (map view l.document.nodes.now) (map view l.document.cables.now) in
    find test (flat_map followed (routes_view (drop l.route-index l.routes))) ≡ find test (flat_map followed (routes_view l.routes))
