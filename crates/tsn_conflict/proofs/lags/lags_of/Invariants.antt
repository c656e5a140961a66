use Rattle.std.proofs.Common.{◌≡◌}
use Rattle.tsn_conflict.proofs.Lagging.{lags_first}
use Rattle.tsn_conflict.proofs.lags.lags_of.Given as goal

abbrev pub invariant-loop-first : goal.invariant-loop-first
invariant-loop-first l = l.lags.items ≡ lags_first l.timing l.left l.right l.first-index
