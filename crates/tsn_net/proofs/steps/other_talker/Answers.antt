use Rattle.std.proofs.Common.{◌≡◌, ℕ, Bool, List, Option, not, true, false, Some, option_map, sym, ap, ◌∙◌}
use Rattle.std.specs.List.{find}
use Rattle.std.specs.Str.{bytes_eq}
use Rattle.toml.specs.View.{view}
use Rattle.tsn_net.specs.Document.{texts_of}
use Rattle.tsn_net.specs.DocumentView.{routes_view}
use Rattle.tsn_net.specs.Conditions.{begin_of}
use Rattle.tsn_net.proofs.Along.{routes-drop, routes-past}
use Rattle.tsn_model.proofs.Rest.{find_here, find_later}
use Rattle.tsn_net.proofs.steps.other_talker.Goals as goal

abbrev elsewhere : List ℕ → List (List ℕ) → Bool
elsewhere talker route = not (bytes_eq (begin_of route) talker)

-- where the first route begins that begins elsewhere than at a talker
abbrev begins : List (List (List ℕ)) → List ℕ → Option (List ℕ)
begins routes talker = option_map begin_of (find (elsewhere talker) routes)

pub returns-then-ne : goal.returns-then-ne
returns-then-ne c =
    let talker = c.talker_of-talker.result.now in
    let routes = routes_view c.args.routes.now in
    let names = texts_of (view c.route-item.result) in
    let next = routes-drop c.args.routes.now c.loop-route.route-index c.route-item.result c.loop-route-test.true c.route-item.is in
    let differs : elsewhere talker names ≡ true = ap (λ b. not (bytes_eq b talker)) (sym c.begin_of-begin.ensures) ∙ sym c.ne.ensures ∙ c.if-ne.true in
    ap Some c.begin_of-begin.ensures ∙ ap (option_map begin_of) (find_here (elsewhere talker) _ _ names next _ differs c.loop-route.invariant)
    ∙ ap (begins routes) c.talker_of-talker.ensures

pub loop-route-preserved : goal.loop-route-preserved
loop-route-preserved c =
    let talker = c.talker_of-talker.result.now in
    let names = texts_of (view c.route-item.result) in
    let next = routes-drop c.args.routes.now c.loop-route.route-index c.route-item.result c.loop-route-test.true c.route-item.is in
    let same : elsewhere talker names ≡ false = ap (λ b. not (bytes_eq b talker)) (sym c.begin_of-begin.ensures) ∙ sym c.ne.ensures ∙ c.if-ne.false in
    find_later (elsewhere talker) _ _ names next _ same c.loop-route.invariant

pub returns : goal.returns
returns c =
    let talker = c.talker_of-talker.result.now in
    ap (option_map begin_of)
    (sym (ap (find (elsewhere talker)) (routes-past c.args.routes.now c.loop-route.route-index c.loop-route-test.false)) ∙ c.loop-route.invariant)
    ∙ ap (begins (routes_view c.args.routes.now)) c.talker_of-talker.ensures
