use Rattle.tsn_conflict.proofs.Lagging.{AreLess}
use Rattle.tsn_conflict.proofs.lags.place_of.Given as goal

abbrev pub invariant-loop-place : goal.invariant-loop-place
invariant-loop-place l = AreLess l.lags l.lag l.place
