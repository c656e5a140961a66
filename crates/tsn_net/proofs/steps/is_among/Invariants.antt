use Rattle.std.proofs.Common.{◌≡◌, drop}
use Rattle.tsn_net.specs.DocumentView.{step_view, steps_view}
use Rattle.tsn_net.specs.Conditions.{is_step}
use Rattle.tsn_net.proofs.steps.is_among.Given as goal

-- whether it is one of the rest is whether it is one of all
abbrev pub invariant-loop-other : goal.invariant-loop-other
invariant-loop-other l = is_step (step_view l.step) (steps_view (drop l.other-index l.steps)) ≡ is_step (step_view l.step) (steps_view l.steps)
