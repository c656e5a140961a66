use Rattle.std.proofs.Common.{◌*◌, ◌+◌, ◌-◌, ◌≤◌}
use Rattle.tsn_replay.specs.Tournament.{most_ports}
use Rattle.tsn_replay.proofs.tournament.leaves_for.Given as goal

abbrev pub invariant-loop-leaves : goal.invariant-loop-leaves
invariant-loop-leaves l = record { some : 1 ≤ l.leaves; few : l.leaves ≤ 2 * most_ports }

abbrev pub decreases-loop-leaves : goal.decreases-loop-leaves
decreases-loop-leaves l = 2 * most_ports + 1 - l.leaves
