use Rattle.std.proofs.Common.{◌≡◌, drop}
use Rattle.std.specs.List.{find}
use Rattle.tsn_net.specs.DocumentView.{step_view, steps_view}
use Rattle.tsn_net.specs.Conditions.{meet}
use Rattle.tsn_net.proofs.steps.other_way.Given as goal

-- the first of the rest that meets it is that of all
abbrev pub invariant-loop-other : goal.invariant-loop-other
invariant-loop-other l = find (meet (step_view l.step)) (steps_view (drop l.other-index l.steps)) ≡ find (meet (step_view l.step)) (steps_view l.steps)
