use Rattle.std.proofs.Common.{◌&&◌, ℕ, List, sym, ap, ◌∙◌}
use Rattle.std.specs.Str.{bytes_eq}
use Rattle.tsn_net.specs.DocumentView.{step_view}
use Rattle.tsn_net.specs.Conditions.{is_step}
use Rattle.tsn_model.proofs.Rest.{rest_at, rest_none, any_here, any_later}
use Rattle.tsn_net.proofs.steps.is_among.Goals as goal

pub returns-then-are_same : goal.returns-then-are_same
returns-then-are_same c =
    let p : List ℕ × List ℕ = step_view c.args.step in
    any_here (λ (q : List ℕ × List ℕ). bytes_eq q.0 p.0 && bytes_eq q.1 p.1) _ _ _
    (rest_at step_view c.args.steps.now c.loop-other.other-index _ c.loop-other-test.true) _
    (sym c.are_same.ensures ∙ c.if-are_same.true) c.loop-other.invariant

pub loop-other-preserved : goal.loop-other-preserved
loop-other-preserved c =
    let p : List ℕ × List ℕ = step_view c.args.step in
    any_later (λ (q : List ℕ × List ℕ). bytes_eq q.0 p.0 && bytes_eq q.1 p.1) _ _ _
    (rest_at step_view c.args.steps.now c.loop-other.other-index _ c.loop-other-test.true) _
    (sym c.are_same.ensures ∙ c.if-are_same.false) c.loop-other.invariant

pub returns : goal.returns
returns c =
    sym (ap (is_step (step_view c.args.step)) (rest_none step_view c.args.steps.now c.loop-other.other-index c.loop-other-test.false)) ∙ c.loop-other.invariant
