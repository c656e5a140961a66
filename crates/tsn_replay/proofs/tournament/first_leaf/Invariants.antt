use Rattle.std.proofs.Common.{◌≡◌, ◌*◌, ◌-◌, ◌≤◌, ◌<◌, get_or}
use Rattle.tsn_replay.proofs.tournament.first_leaf.Given as goal

abbrev pub invariant-loop-node : goal.invariant-loop-node
invariant-loop-node l = record {
  some : 1 ≤ l.node;
  high : l.node < 2 * l.leaves;
  least : get_or l.times l.node 0 ≡ get_or l.times 1 0;
}

abbrev pub decreases-loop-node : goal.decreases-loop-node
decreases-loop-node l = 2 * l.leaves - l.node
