use Rattle.std.proofs.Common.{◌≡◌, ◌≤◌, ◌-◌, drop, length}
use Rattle.std.specs.Prelude.{fold}
use Rattle.tsn_net.specs.DocumentView.{texts_view, steps_view}
use Rattle.tsn_net.specs.Conditions.{neighbours, with_step}
use Rattle.tsn_net.proofs.steps.with_steps.Given as goal

-- the steps so far, with those of the rest, are those of all; and there is room for them
abbrev pub invariant-loop-k : goal.invariant-loop-k
invariant-loop-k l =
    (length l.steps.items ≤ 64)
    × (fold with_step (steps_view l.steps.items) (neighbours (drop (l.k - 1) (texts_view l.route)))
    ≡ fold with_step (steps_view l.fn.steps.items) (neighbours (texts_view l.route)))
