use Rattle.std.proofs.Common.{◌≡◌, ◌+◌, ◌-◌, Some, map, ap, sym, ◌∙◌, arith}
use Rattle.toml.specs.View.{view}
use Rattle.tsn_net.specs.DocumentView.{texts_view}
use Rattle.tsn_net.specs.Conditions.{followed}
use Rattle.tsn_net.specs.Matter.{first_quick}
use Rattle.tsn_net.proofs.RouteLemmas.{followed-before, followed-past}
use Rattle.tsn_net.proofs.routes.quick_in.Goals as goal

pub returns-then-is_quick : goal.returns-then-is_quick
returns-then-is_quick c =
    let first_of = first_quick c.args.slack c.args.octets (map view c.args.document.now.nodes.now)
    (map view c.args.document.now.cables.now) in
    let route = c.args.route.now in
    let k = c.loop-k.k in
    let step = ap first_of (followed-before route k _ _ (omega arith) c.loop-k-test.true c.index-route-k.is c.index-route-k-in-loop-k.is) in
    let first = c.text-from.ensures in
    let second = c.text-to.ensures in
    let quick : first_of (followed (texts_view route)) ≡ Some (c.text-from.result.now, c.text-to.result.now) =
    sym c.loop-k.invariant ∙ step ∙ rw (← first, ← second, ← c.is_quick.ensures, c.if-is_quick.true) in
    sym quick

pub loop-k-preserved : goal.loop-k-preserved
loop-k-preserved c =
    let first_of = first_quick c.args.slack c.args.octets (map view c.args.document.now.nodes.now)
    (map view c.args.document.now.cables.now) in
    let k = c.loop-k.k in
    let step = ap first_of
    (followed-before c.args.route.now k _ _ (omega arith) c.loop-k-test.true c.index-route-k.is c.index-route-k-in-loop-k.is) in
    let first = c.text-from.ensures in
    let second = c.text-to.ensures in
    let next : k + 1 - 2 ≡ k - 1 = omega arith in
    rw next (sym (sym c.loop-k.invariant ∙ step ∙ rw (← first, ← second, ← c.is_quick.ensures, c.if-is_quick.false)))

pub returns : goal.returns
returns c =
    let first_of = first_quick c.args.slack c.args.octets (map view c.args.document.now.nodes.now)
    (map view c.args.document.now.cables.now) in
    sym (ap first_of (followed-past c.args.route.now c.loop-k.k (omega arith) c.loop-k-test.false)) ∙ c.loop-k.invariant
