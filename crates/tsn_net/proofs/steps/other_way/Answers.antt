use Rattle.std.proofs.Common.{ℕ, List, option_map, sym, ap, ◌∙◌}
use Rattle.std.specs.List.{find}
use Rattle.tsn_net.specs.DocumentView.{step_view}
use Rattle.tsn_net.specs.Conditions.{meet}
use Rattle.tsn_model.proofs.Rest.{rest_at, rest_none, find_here, find_later}
use Rattle.tsn_net.proofs.steps.other_way.Goals as goal

pub returns-then-meets : goal.returns-then-meets
returns-then-meets c =
    ap (option_map (λ (q : List ℕ × List ℕ). q.0))
    (find_here (meet (step_view c.args.step)) _ _ _ (rest_at step_view c.args.steps.now c.loop-other.other-index _ c.loop-other-test.true) _
    (sym c.meets.ensures ∙ c.if-meets.true) c.loop-other.invariant)

pub loop-other-preserved : goal.loop-other-preserved
loop-other-preserved c =
    find_later (meet (step_view c.args.step)) _ _ _ (rest_at step_view c.args.steps.now c.loop-other.other-index _ c.loop-other-test.true) _
    (sym c.meets.ensures ∙ c.if-meets.false) c.loop-other.invariant

pub returns : goal.returns
returns c =
    ap (option_map (λ (q : List ℕ × List ℕ). q.0))
    (sym (ap (find (meet (step_view c.args.step)))
    (rest_none step_view c.args.steps.now c.loop-other.other-index c.loop-other-test.false)) ∙ c.loop-other.invariant)
