use Rattle.std.proofs.Common.{◌≡◌, true, map, ap, sym, ◌∙◌}
use Rattle.std.specs.Prelude.{is_some}
use Rattle.toml.specs.View.{view}
use Rattle.tsn_net.specs.DocumentView.{texts_view}
use Rattle.tsn_net.specs.Conditions.{is_no_way}
use Rattle.tsn_net.proofs.Along.{stops_at, goes_past, ends_at}
use Rattle.tsn_net.proofs.routes.no_way_in.Goals as goal

pub returns-in-Some : goal.returns-in-Some
returns-in-Some c =
    let names = texts_view c.texts_of.result.now in
    let no_way : is_no_way (map view c.args.document.now.nodes.now) names ≡ true = sym c.in-Some.ensures.0 in
    let first = stops_at (is_no_way (map view c.args.document.now.nodes.now)) c.args.routes.now c.loop-route.route-index
    c.route-item.result names _ c.loop-route-test.true
    c.route-item.is c.texts_of.ensures c.loop-route.invariant no_way in
    (ap is_some first, (c.in-Some.ensures.1.0, names, sym first, c.in-Some.ensures.1.1))

pub loop-route-preserved : goal.loop-route-preserved
loop-route-preserved c =
    let names = texts_view c.texts_of.result.now in
    goes_past (is_no_way (map view c.args.document.now.nodes.now)) c.args.routes.now c.loop-route.route-index
    c.route-item.result names _ c.loop-route-test.true
    c.route-item.is c.texts_of.ensures c.loop-route.invariant (sym c.route_amiss.ensures.0 ∙ ap is_some c.in_default.is)

pub returns : goal.returns
returns c = (
  ap is_some (ends_at (is_no_way (map view c.args.document.now.nodes.now)) c.args.routes.now c.loop-route.route-index
      _ c.loop-route-test.false c.loop-route.invariant),
  tt,
)
