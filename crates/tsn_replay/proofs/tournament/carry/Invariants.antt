use Rattle.std.proofs.Common.{◌≡◌, ◌*◌, ◌≤◌, ◌<◌, ℕ, length, get_or}
use Rattle.tsn_replay.specs.Tournament.{AreLesserBut}
use Rattle.tsn_replay.proofs.tournament.carry.Given as goal

abbrev pub invariant-loop-node : goal.invariant-loop-node
invariant-loop-node l = record {
  some : 1 ≤ l.node;
  high : l.node < 2 * l.leaves;
  count : length l.times ≡ 2 * l.leaves;
  lesser : AreLesserBut l.node l.leaves l.times;
  kept : (k : ℕ) → l.leaves ≤ k → get_or l.times k 0 ≡ get_or l.fn.times k 0;
}

abbrev pub decreases-loop-node : goal.decreases-loop-node
decreases-loop-node l = l.node
