use Rattle.std.proofs.Common.{◌≡◌, drop}
use Rattle.std.specs.List.{list_any}
use Rattle.tsn_net.specs.DocumentView.{texts_view, routes_view}
use Rattle.tsn_net.specs.Conditions.{is_same}
use Rattle.tsn_net.proofs.steps.stands_in.Given as goal

-- whether it is one of the rest is whether it is one of all
abbrev pub invariant-loop-route : goal.invariant-loop-route
invariant-loop-route l =
    list_any (is_same (texts_view l.names)) (routes_view (drop l.route-index l.routes)) ≡ list_any (is_same (texts_view l.names)) (routes_view l.routes)
