use Rattle.std.proofs.Common.{◌≡◌, ◌≤◌, ◌+◌, ◌-◌, ℕ, List, length, drop, false, ap, sym, ◌∙◌, subst, arith}
use Rattle.std.specs.Prelude.{fold}
use Rattle.std.proofs.lemmas.Bool.{eqb-true}
use Rattle.std.proofs.lemmas.List.{length-map, length_push, map-append}
use Rattle.arrayvec.specs.ArrayVec.{ArrayVec}
use Rattle.tsn_net.specs.declared.steps.Step.{Step}
use Rattle.tsn_net.specs.DocumentView.{texts_view, step_view, steps_view}
use Rattle.tsn_net.specs.Conditions.{neighbours, is_step, with_step, few}
use Rattle.tsn_net.proofs.RouteLemmas.{step-next, steps-past}
use Rattle.tsn_net.proofs.StepLemmas.{few-short, not_full, step_there, step_new, step_past}
use Rattle.tsn_net.proofs.steps.with_steps.Goals as goal
use Rattle.tsn_net.proofs.steps.with_steps.Goals.{then-not-is_among+else-is_full, else-not-is_among}

pub returns-then-is_full : goal.returns-then-is_full
returns-then-is_full c =
    let now = steps_view c.loop-k.steps.items in
    let names = c.args.route.now in
    let p : List ℕ × List ℕ = (c.text.result.now, c.text-in-loop-k.result.now) in
    let rest = neighbours (drop c.loop-k.k (texts_view names)) in
    let next = step-next names c.loop-k.k c.index-route-k.result c.index-route-k-in-loop-k.result c.text.result.now c.text-in-loop-k.result.now c.loop-k.auto.k
    c.loop-k-test.true c.index-route-k.is c.index-route-k-in-loop-k.is c.text.ensures c.text-in-loop-k.ensures in
    let all = sym (ap (fold with_step now) next) ∙ c.loop-k.invariant.1 in
    let new : is_step p now ≡ false =
    sym (ap (λ xs. is_step p (steps_view xs)) c.as_slice.ensures.value) ∙ sym c.is_among.ensures ∙ c.if-not-is_among.true in
    let full : length c.loop-k.steps.items ≡ 64 = eqb-true (length c.loop-k.steps.items) 64 (sym c.is_full.ensures.value ∙ c.if-is_full.true) in
    step_past now rest _ p all new (length-map c.loop-k.steps.items step_view ∙ full)

pub loop-k-preserved : goal.loop-k-preserved
loop-k-preserved c =
    let now = steps_view c.loop-k.steps.items in
    let names = c.args.route.now in
    let p : List ℕ × List ℕ = (c.text.result.now, c.text-in-loop-k.result.now) in
    let rest = neighbours (drop c.loop-k.k (texts_view names)) in
    let same : c.loop-k.k + 1 - 1 ≡ c.loop-k.k = omega arith in
    let back = ap (λ k. neighbours (drop k (texts_view names))) same in
    let next = step-next names c.loop-k.k c.index-route-k.result c.index-route-k-in-loop-k.result c.text.result.now c.text-in-loop-k.result.now c.loop-k.auto.k
    c.loop-k-test.true c.index-route-k.is c.index-route-k-in-loop-k.is c.text.ensures c.text-in-loop-k.ensures in
    let all = sym (ap (fold with_step now) next) ∙ c.loop-k.invariant.1 in
    let among = sym (ap (λ xs. is_step p (steps_view xs)) c.as_slice.ensures.value) ∙ sym c.is_among.ensures in
    let fits : length c.loop-k.steps.items ≤ 64 = c.loop-k.invariant.0 in
    elim c.if-not-is_among.branch [
      | then-not-is_among+else-is_full w ↦
          let items = ap (λ (v : ArrayVec Step). v.items) w.steps-is ∙ w.push.ensures.items in
          let long : length c.if-not-is_among.steps.items ≡ length c.loop-k.steps.items + 1 = ap length items ∙ length_push c.loop-k.steps.items _ in
          let room = not_full (length c.loop-k.steps.items) (sym w.is_full.ensures.value ∙ w.if-is_full.false) fits in (
            omega (arith, long, room),
            ap (λ xs. fold with_step (steps_view xs) (neighbours (drop (c.loop-k.k + 1 - 1) (texts_view names)))) items
                ∙ ap (fold with_step (steps_view _)) back
                ∙ ap (λ xs. fold with_step xs rest) (map-append step_view c.loop-k.steps.items _)
                ∙ step_new now rest _ p all (among ∙ w.if-not-is_among.true),
          )
      | else-not-is_among w ↦
          let items = ap (λ (v : ArrayVec Step). v.items) w.steps-is in (
            subst (λ xs. length xs ≤ 64) (sym items) fits,
            ap (λ xs. fold with_step (steps_view xs) (neighbours (drop (c.loop-k.k + 1 - 1) (texts_view names)))) items
                ∙ ap (fold with_step now) back ∙ step_there now rest _ p all (among ∙ w.if-not-is_among.false),
          )
    ]

pub returns : goal.returns
returns c =
    let now = steps_view c.loop-k.steps.items in
    let end : now ≡ fold with_step (steps_view c.args.steps.items) (neighbours (texts_view c.args.route.now)) =
    sym (ap (fold with_step now) (steps-past c.args.route.now c.loop-k.k c.loop-k.auto.k c.loop-k-test.false)) ∙ c.loop-k.invariant.1 in
    let fits : length now ≤ 64 = let long = length-map c.loop-k.steps.items step_view in let most = c.loop-k.invariant.0 in omega (arith, long, most) in
    sym (few-short now fits) ∙ ap few end
