use Rattle.std.proofs.Common.{map, ap, sym, ◌∙◌}
use Rattle.std.specs.List.{flat_map}
use Rattle.toml.specs.View.{view}
use Rattle.tsn_net.specs.DocumentView.{routes_view, step_view, one_step_view}
use Rattle.tsn_net.specs.Conditions.{is_quick, followed}
use Rattle.tsn_net.proofs.NoSlack.{none_quick}
use Rattle.tsn_net.proofs.Along.{stops_along, goes_along, ends_along}
use Rattle.tsn_net.proofs.routes.quick_step.Goals as goal

pub returns-in-Some : goal.returns-in-Some
returns-in-Some c =
    let test = is_quick c.args.slack c.args.octets (map view c.args.document.now.nodes.now) (map view c.args.document.now.cables.now) in
    stops_along test followed c.args.routes.now c.loop-route.route-index c.route-item.result _ (step_view c.in-Some.step) _
    c.loop-route-test.true c.route-item.is
    c.texts_of.ensures (sym c.in-Some.ensures) c.loop-route.invariant

pub loop-route-preserved : goal.loop-route-preserved
loop-route-preserved c =
    let test = is_quick c.args.slack c.args.octets (map view c.args.document.now.nodes.now) (map view c.args.document.now.cables.now) in
    goes_along test followed c.args.routes.now c.loop-route.route-index c.route-item.result _ _ c.loop-route-test.true c.route-item.is
    c.texts_of.ensures (sym c.quick_in.ensures ∙ ap one_step_view c.in_default.is) c.loop-route.invariant

pub returns : goal.returns
returns c =
    let test = is_quick c.args.slack c.args.octets (map view c.args.document.now.nodes.now) (map view c.args.document.now.cables.now) in
    ends_along test followed c.args.routes.now c.loop-route.route-index _ c.loop-route-test.false c.loop-route.invariant

pub returns-then-slack-eq0 : goal.returns-then-slack-eq0
returns-then-slack-eq0 c =
    sym (none_quick c.args.slack c.args.octets (map view c.args.document.now.nodes.now) (map view c.args.document.now.cables.now)
    (flat_map followed (routes_view c.args.routes.now))
    c.if-slack-eq0.true)
