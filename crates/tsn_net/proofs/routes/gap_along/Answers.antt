use Rattle.std.proofs.Common.{ℕ, Bool, List, map, not, ap, sym, ◌∙◌}
use Rattle.toml.specs.View.{view}
use Rattle.tsn_net.specs.DocumentView.{step_view, one_step_view}
use Rattle.tsn_net.specs.Conditions.{has_cable, neighbours}
use Rattle.tsn_net.proofs.Along.{stops_along, goes_along, ends_along}
use Rattle.tsn_net.proofs.routes.gap_along.Goals as goal

pub returns-in-Some : goal.returns-in-Some
returns-in-Some c =
    let test : List ℕ × List ℕ → Bool = λ p. not (has_cable (map view c.args.document.now.cables.now) p) in
    stops_along test neighbours c.args.routes.now c.loop-route.route-index c.route-item.result _ (step_view c.in-Some.step) _
    c.loop-route-test.true c.route-item.is
    c.texts_of.ensures (sym c.in-Some.ensures) c.loop-route.invariant

pub loop-route-preserved : goal.loop-route-preserved
loop-route-preserved c =
    let test : List ℕ × List ℕ → Bool = λ p. not (has_cable (map view c.args.document.now.cables.now) p) in
    goes_along test neighbours c.args.routes.now c.loop-route.route-index c.route-item.result _ _ c.loop-route-test.true c.route-item.is
    c.texts_of.ensures (sym c.gap_in.ensures ∙ ap one_step_view c.in_default.is) c.loop-route.invariant

pub returns : goal.returns
returns c =
    let test : List ℕ × List ℕ → Bool = λ p. not (has_cable (map view c.args.document.now.cables.now) p) in
    ends_along test neighbours c.args.routes.now c.loop-route.route-index _ c.loop-route-test.false c.loop-route.invariant
