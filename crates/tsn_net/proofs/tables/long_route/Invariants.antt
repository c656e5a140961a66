use Rattle.std.proofs.Common.{◌≡◌, drop}
use Rattle.std.specs.List.{find}
use Rattle.tsn_net.specs.DocumentView.{routes_view}
use Rattle.tsn_net.specs.Conditions.{is_long}
use Rattle.tsn_net.proofs.tables.long_route.Given as goal

-- the first long route of the rest is that of all
abbrev pub invariant-loop-route : goal.invariant-loop-route
invariant-loop-route l = find is_long (routes_view (drop l.route-index l.routes)) ≡ find is_long (routes_view l.routes)
