use Rattle.std.proofs.Common.{◌≡◌, ◌≤◌, pos}
use Rattle.tsn_model.specs.Network.{period_of}
use Rattle.tsn_conflict.proofs.Lagging.{after_first}
use Rattle.tsn_conflict.proofs.lags.put_after.Given as goal

abbrev pub invariant-loop-second : goal.invariant-loop-second
invariant-loop-second l = record {
  so_far : l.lags.items ≡ after_first l.timing l.left l.right l.fn.lags.items l.first l.second-index;
  left_period : l.left_period ≡ pos (period_of l.timing l.left);
  right_period : l.right_period ≡ pos (period_of l.timing l.right);
  left_short : period_of l.timing l.left ≤ 1000000000;
  right_short : period_of l.timing l.right ≤ 1000000000;
}
