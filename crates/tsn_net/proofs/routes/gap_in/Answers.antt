use Rattle.std.proofs.Common.{◌≡◌, ◌+◌, ◌-◌, Some, map, ap, sym, ◌∙◌, arith}
use Rattle.toml.specs.View.{view}
use Rattle.tsn_net.specs.DocumentView.{texts_view}
use Rattle.tsn_net.specs.Conditions.{neighbours}
use Rattle.tsn_net.specs.Matter.{first_gap}
use Rattle.tsn_net.proofs.RouteLemmas.{steps-before, steps-past}
use Rattle.tsn_net.proofs.routes.gap_in.Goals as goal

pub returns-then-not-are_joined : goal.returns-then-not-are_joined
returns-then-not-are_joined c =
    let cables = map view c.args.document.now.cables.now in
    let route = c.args.route.now in
    let k = c.loop-k.k in
    let step = ap (first_gap cables)
    (steps-before route k _ _ c.loop-k.auto.k c.loop-k-test.true c.index-route-k.is c.index-route-k-in-loop-k.is) in
    let first = c.text-from.ensures in
    let second = c.text-to.ensures in
    let gap : first_gap cables (neighbours (texts_view route)) ≡ Some (c.text-from.result.now, c.text-to.result.now) =
    sym c.loop-k.invariant ∙ step ∙ rw (← first, ← second, ← c.are_joined.ensures, c.if-not-are_joined.true) in
    sym gap

pub loop-k-preserved : goal.loop-k-preserved
loop-k-preserved c =
    let cables = map view c.args.document.now.cables.now in
    let k = c.loop-k.k in
    let step = ap (first_gap cables)
    (steps-before c.args.route.now k _ _ c.loop-k.auto.k c.loop-k-test.true c.index-route-k.is c.index-route-k-in-loop-k.is) in
    let first = c.text-from.ensures in
    let second = c.text-to.ensures in
    let next : k + 1 - 1 ≡ k = omega arith in
    rw next (sym (sym c.loop-k.invariant ∙ step ∙ rw (← first, ← second, ← c.are_joined.ensures, c.if-not-are_joined.false)))

pub returns : goal.returns
returns c = sym (ap (first_gap (map view c.args.document.now.cables.now))
    (steps-past c.args.route.now c.loop-k.k c.loop-k.auto.k c.loop-k-test.false)) ∙ c.loop-k.invariant
