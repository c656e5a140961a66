use Rattle.std.proofs.Common.{◌≡◌, ◌≤◌, ◌<◌, ◌+◌, length, drop, Some, None, ap, sym, ◌∙◌, arith}
use Rattle.std.specs.Prelude.{fold}
use Rattle.std.specs.List.{flat_map}
use Rattle.std.proofs.lemmas.List.{length-map}
use Rattle.std.proofs.lemmas.List.Sums.{fold-append}
use Rattle.toml.specs.View.{view}
use Rattle.tsn_net.specs.Document.{texts_of}
use Rattle.tsn_net.specs.DocumentView.{routes_view, step_view, steps_view, few_view}
use Rattle.tsn_net.specs.Conditions.{neighbours, with_step, few, different, steps_of}
use Rattle.tsn_net.proofs.Along.{routes-drop, routes-past}
use Rattle.tsn_net.proofs.StepLemmas.{grows, few-none, few-long, few-short, few-same, few-fits}
use Rattle.tsn_net.proofs.steps.different_steps.Goals as goal

pub loop-route-preserved : goal.loop-route-preserved
loop-route-preserved c =
    let now = steps_view c.loop-route.steps.items in
    let rest = flat_map neighbours (routes_view (drop (c.loop-route.route-index + 1) c.args.routes.now)) in
    let here = fold with_step now (neighbours (texts_of (view c.route-item.result))) in
    let step = routes-drop c.args.routes.now c.loop-route.route-index c.route-item.result c.loop-route-test.true c.route-item.is in
    let all : fold with_step here rest ≡ different (steps_of (routes_view c.args.routes.now)) =
    sym (fold-append with_step now (neighbours (texts_of (view c.route-item.result))) rest)
    ∙ sym (ap (λ rs. fold with_step now (flat_map neighbours rs)) step) ∙ c.loop-route.invariant.1 in
    let found : few here ≡ Some (steps_view c.in_ok-steps.steps.items) =
    ap (λ names. few (fold with_step now (neighbours names))) (sym c.texts_of.ensures) ∙ sym c.in_ok-steps.ensures in
    let long = length-map c.in_ok-steps.steps.items step_view in
    let fits = few-fits here _ found in
    (omega (arith, long, fits), ap (λ xs. fold with_step xs rest) (sym (few-same here _ found)) ∙ all)

pub returns-in_err-steps : goal.returns-in_err-steps
returns-in_err-steps c =
    let now = steps_view c.loop-route.steps.items in
    let rest = flat_map neighbours (routes_view (drop (c.loop-route.route-index + 1) c.args.routes.now)) in
    let here = fold with_step now (neighbours (texts_of (view c.route-item.result))) in
    let step = routes-drop c.args.routes.now c.loop-route.route-index c.route-item.result c.loop-route-test.true c.route-item.is in
    let all : fold with_step here rest ≡ different (steps_of (routes_view c.args.routes.now)) =
    sym (fold-append with_step now (neighbours (texts_of (view c.route-item.result))) rest)
    ∙ sym (ap (λ rs. fold with_step now (flat_map neighbours rs)) step) ∙ c.loop-route.invariant.1 in
    let none : few here ≡ None = ap (λ names. few (fold with_step now (neighbours names))) (sym c.texts_of.ensures) ∙ sym c.in_err-steps.ensures in
    let many = few-none here none in
    let longer = grows here rest in
    let same = ap length all in
    let long : 64 < length (different (steps_of (routes_view c.args.routes.now))) = omega (arith, many, longer, same) in
    ap few_view c.from_residual.ensures ∙ sym (few-long (different (steps_of (routes_view c.args.routes.now))) long)

pub returns : goal.returns
returns c =
    let now = steps_view c.loop-route.steps.items in
    let end : now ≡ different (steps_of (routes_view c.args.routes.now)) =
    sym (ap (λ rs. fold with_step now (flat_map neighbours rs)) (routes-past c.args.routes.now c.loop-route.route-index c.loop-route-test.false))
    ∙ c.loop-route.invariant.1 in
    let fits : length now ≤ 64 = let long = length-map c.loop-route.steps.items step_view in let most = c.loop-route.invariant.0 in omega (arith, long, most) in
    sym (few-short now fits) ∙ ap few end
