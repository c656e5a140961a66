use Rattle.std.proofs.Common.{◌≡◌, drop, map}
use Rattle.toml.specs.View.{view}
use Rattle.tsn_net.specs.DocumentView.{steps_view}
use Rattle.tsn_net.specs.Conditions.{meeting}
use Rattle.tsn_net.proofs.steps.meeting.Given as goal

-- what is found among the rest is so among all
abbrev pub invariant-loop-k : goal.invariant-loop-k
invariant-loop-k l = meeting (map view l.document.nodes.now) (steps_view (drop l.k l.steps)) ≡ meeting (map view l.document.nodes.now) (steps_view l.steps)
