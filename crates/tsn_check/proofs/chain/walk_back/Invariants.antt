use Rattle.std.proofs.Common.{◌-◌, ◌*◌, length, pos, ◌+ℤ◌, ◌≤ℤ◌}
use Rattle.tsn_check.specs.Turns.{arcs}
use Rattle.tsn_check.proofs.Chains.{WalkedTo}
use Rattle.tsn_check.proofs.chain.walk_back.Given as goal

abbrev pub invariant-loop-number : goal.invariant-loop-number
invariant-loop-number l = record {
  walked : WalkedTo (arcs l.path) l.chain l.number l.walk.start l.end l.walk.sum;
  low : pos 0 ≤ℤ (l.walk.sum +ℤ pos (1210000000 * (length l.chain - l.number)));
  high : l.walk.sum ≤ℤ pos (1210000000 * (length l.chain - l.number));
}
