use Rattle.std.proofs.Common.{◌≡◌, ◌≤◌, drop, length}
use Rattle.std.specs.Prelude.{fold}
use Rattle.std.specs.List.{flat_map}
use Rattle.tsn_net.specs.DocumentView.{routes_view, steps_view}
use Rattle.tsn_net.specs.Conditions.{neighbours, with_step, different, steps_of}
use Rattle.tsn_net.proofs.steps.different_steps.Given as goal

-- the steps so far, with those of the rest, are those of all; and there is room for them
abbrev pub invariant-loop-route : goal.invariant-loop-route
invariant-loop-route l =
    (length l.steps.items ≤ 64)
    × (fold with_step (steps_view l.steps.items) (flat_map neighbours (routes_view (drop l.route-index l.routes)))
    ≡ different (steps_of (routes_view l.routes)))
