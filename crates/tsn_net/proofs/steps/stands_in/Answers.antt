use Rattle.std.proofs.Common.{sym, ap, ◌∙◌}
use Rattle.std.specs.List.{list_any}
use Rattle.tsn_net.specs.DocumentView.{texts_view}
use Rattle.tsn_net.specs.Conditions.{is_same}
use Rattle.tsn_net.proofs.Along.{route_in, routes-past}
use Rattle.tsn_model.proofs.Rest.{rest_seen, any_here, any_later}
use Rattle.tsn_net.proofs.steps.stands_in.Goals as goal

pub returns-then-is_same : goal.returns-then-is_same
returns-then-is_same c =
    let names = texts_view c.texts_of.result.now in
    let next = rest_seen route_in c.args.routes.now c.loop-route.route-index c.route-item.result names c.loop-route-test.true c.route-item.is
    c.texts_of.ensures in
    any_here (is_same (texts_view c.args.names.now)) _ _ names next _ (sym c.is_same.ensures ∙ c.if-is_same.true) c.loop-route.invariant

pub loop-route-preserved : goal.loop-route-preserved
loop-route-preserved c =
    let names = texts_view c.texts_of.result.now in
    let next = rest_seen route_in c.args.routes.now c.loop-route.route-index c.route-item.result names c.loop-route-test.true c.route-item.is
    c.texts_of.ensures in
    any_later (is_same (texts_view c.args.names.now)) _ _ names next _ (sym c.is_same.ensures ∙ c.if-is_same.false) c.loop-route.invariant

pub returns : goal.returns
returns c =
    sym (ap (list_any (is_same (texts_view c.args.names.now))) (routes-past c.args.routes.now c.loop-route.route-index c.loop-route-test.false))
    ∙ c.loop-route.invariant
