use Rattle.std.proofs.Common.{◌≡◌, map, drop}
use Rattle.std.specs.Prelude.{fold}
use Rattle.tsn_model.specs.Unions.{with_links, union_of}
use Rattle.tsn_net.specs.DocumentView.{routes_view}
use Rattle.tsn_net.specs.Problem.{route_links}
use Rattle.tsn_timing.specs.ProblemView.{names_in}
use Rattle.tsn_net.proofs.problem.read_routes.Given as goal

-- the links so far, with those along the rest, are those along all
abbrev pub invariant-loop-route : goal.invariant-loop-route
invariant-loop-route l =
    let along = route_links (names_in l.names.keys) l.index.links.now in
    fold with_links l.along.items (map along (routes_view (drop l.route-index l.routes))) ≡ union_of (map along (routes_view l.routes))
