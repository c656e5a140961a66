use Rattle.std.proofs.Common.{◌+◌, map, drop, ap, sym, ◌∙◌}
use Rattle.std.specs.Prelude.{fold}
use Rattle.tsn_model.specs.Unions.{with_links, union_of}
use Rattle.tsn_net.specs.DocumentView.{routes_view}
use Rattle.tsn_net.specs.Problem.{route_links}
use Rattle.tsn_timing.specs.ProblemView.{names_in}
use Rattle.tsn_net.proofs.Along.{routes-drop, routes-past}
use Rattle.tsn_net.proofs.problem.read_routes.Goals as goal

pub loop-route-init : goal.loop-route-init
unfolding union_of
loop-route-init c = ap (λ xs. fold with_links xs (map (route_links (names_in c.args.names.now.keys) c.args.index.now.links.now)
    (routes_view c.args.routes.now))) c.new-along.ensures.items

pub loop-route-preserved : goal.loop-route-preserved
loop-route-preserved c =
    let along = route_links (names_in c.args.names.now.keys) c.args.index.now.links.now in
    let rest = map along (routes_view (drop (c.loop-route.route-index + 1) c.args.routes.now)) in
    let step = routes-drop c.args.routes.now c.loop-route.route-index c.route-item.result c.loop-route-test.true c.route-item.is in
    ap (λ xs. fold with_links xs rest) (c.in_ok-along.ensures ∙ ap (λ names. with_links c.loop-route.along.items (along names)) c.texts_of.ensures)
    ∙ sym (ap (λ rs. fold with_links c.loop-route.along.items (map along rs)) step) ∙ c.loop-route.invariant

pub returns : goal.returns
returns c =
    let along = route_links (names_in c.args.names.now.keys) c.args.index.now.links.now in
    sym (ap (λ rs. fold with_links c.loop-route.along.items (map along rs)) (routes-past c.args.routes.now c.loop-route.route-index c.loop-route-test.false))
    ∙ c.loop-route.invariant
