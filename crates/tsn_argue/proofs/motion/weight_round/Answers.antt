use Rattle.std.proofs.Common.{◌≡◌, ◌+ℤ◌, ◌≤◌, length, map, pos, to_z, of_z, w64, refl, sym, ◌∙◌, subst, inl, inr, arith}
use Rattle.std.proofs.lemmas.Result.{err_from_is_err_and}
use Rattle.std.proofs.lemmas.Int.{ints}
use Rattle.tsn_model.specs.Argument.{LeadsBy}
use Rattle.tsn_cert.specs.Order.{decision_of}
use Rattle.tsn_cert.specs.declared.order.Order.{Order}
use Rattle.tsn_argue.specs.State.{view_of}
use Rattle.tsn_argue.proofs.MotionLemmas.{arc_leads, walk_none, order_wrong, order_apart, walk_more, walk_done, leads_same}
use Rattle.tsn_argue.proofs.motion.weight_round.Goals as goal

abbrev blank : Order
blank = record { first = 0; second = 0; link = 0; lag = pos 0 }

pub returns-in_err-start : goal.returns-in_err-start
returns-in_err-start c =
    let p = err_from_is_err_and c.from_residual.result c.from_residual.ensures.1 in
    let network = c.args.view.now.timing.now in
    let view = view_of c.args.view.now in
    rw (p.1, p.2) (order_wrong network view c.args.orders.now blank 0 0 0 (pos 0) c.decision.result _ (omega arith) c.decision.ensures
    (inl c.in_err-start.ensures) (walk_none network view c.args.orders.now blank 0))

pub loop-order-init : goal.loop-order-init
loop-order-init c = walk_none c.args.view.now.timing.now (view_of c.args.view.now) c.args.orders.now blank c.in_ok-start.field-0.from

pub returns-in_err-arc : goal.returns-in_err-arc
returns-in_err-arc c =
    let p = err_from_is_err_and c.from_residual-in_err-arc.result c.from_residual-in_err-arc.ensures.1 in
    rw (p.1, p.2) (order_wrong c.args.view.now.timing.now (view_of c.args.view.now) c.args.orders.now blank c.in_ok-start.field-0.from
    c.loop-order.order-index c.loop-order.at _ c.decision-in-loop-order.result _ c.loop-order-test.true c.decision-in-loop-order.ensures
    (inl c.in_err-arc.ensures) c.loop-order.invariant)

pub returns-then-arc-at : goal.returns-then-arc-at
returns-then-arc-at c =
    order_apart c.args.view.now.timing.now (view_of c.args.view.now) c.args.orders.now blank c.loop-order.order-index c.loop-order.at _
    c.decision.result c.decision-in-loop-order.result c.in_ok-start.field-0 c.in_ok-arc.arc c.loop-order-test.true c.decision.ensures
    c.decision-in-loop-order.ensures c.in_ok-start.ensures.is c.in_ok-arc.ensures c.if-arc-at.true c.loop-order.invariant

pub loop-order-preserved : goal.loop-order-preserved
loop-order-preserved c =
    let high = c.loop-order.invariant.high in
    let arc_low = c.in_ok-arc.ensures.low in
    let arc_high = c.in_ok-arc.ensures.high in
    let few = c.requires.few in
    let below = c.loop-order-test.true in
    let adds : to_z w64 (of_z w64 (to_z w64 c.loop-order.weight-bits +ℤ to_z w64 (of_z w64 c.in_ok-arc.arc.weight)))
    ≡ to_z w64 c.loop-order.weight-bits +ℤ c.in_ok-arc.arc.weight = omega (arith, ints, c.loop-order.invariant.low, high, arc_low, arc_high, few, below) in
    walk_more c.args.view.now.timing.now (view_of c.args.view.now) c.args.orders.now blank c.in_ok-start.field-0.from c.loop-order.order-index c.loop-order.at
    _ _ c.decision-in-loop-order.result c.in_ok-arc.arc below c.decision-in-loop-order.ensures c.in_ok-arc.ensures c.if-arc-at.false adds
    c.loop-order.invariant

pub returns-then-at-start : goal.returns-then-at-start
returns-then-at-start c =
    let network = c.args.view.now.timing.now in
    let orders = c.args.orders.now in
    let past : length orders ≤ c.loop-order.order-index = omega arith in
    let whole =
    walk_done network (view_of c.args.view.now) orders blank c.in_ok-start.field-0.from c.loop-order.order-index c.loop-order.at _ past
    c.loop-order.invariant in (
      (
        whole.0,
        (
          c.in_ok-start.field-0.from,
          subst (LeadsBy network c.in_ok-start.field-0.from (map decision_of orders)) c.if-at-start.true whole.1,
        ),
      ),
      whole.2,
    )

pub returns-else-at-start : goal.returns-else-at-start
returns-else-at-start c =
    let network = c.args.view.now.timing.now in
    let view = view_of c.args.view.now in
    let orders = c.args.orders.now in
    let start = c.in_ok-start.field-0.from in
    let past : length orders ≤ c.loop-order.order-index = omega arith in
    let whole = walk_done network view orders blank start c.loop-order.order-index c.loop-order.at _ past c.loop-order.invariant in
    inr (
      (whole.0, (start, c.loop-order.at, whole.1)),
      refl,
      λ round.
          let i = round.1.0 in
          let leads = round.1.1 in
          let begins : start ≡ i =
          arc_leads network view orders blank i i i 0 c.decision.result c.in_ok-start.field-0 (omega arith) c.decision.ensures
          c.in_ok-start.ensures.is leads refl in
          let ends : LeadsBy network i (map decision_of orders) c.loop-order.at =
          subst (λ s. LeadsBy network s (map decision_of orders) c.loop-order.at) begins whole.1 in
          c.if-at-start.false (leads_same network i c.loop-order.at i (map decision_of orders) ends leads ∙ sym begins),
    )
