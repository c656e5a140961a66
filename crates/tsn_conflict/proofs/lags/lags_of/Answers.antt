use Rattle.std.proofs.Common.{arith}
use Rattle.std.proofs.lemmas.Grind.{common_steps}
use Rattle.tsn_conflict.proofs.Lagging.{lags_done}
use Rattle.tsn_conflict.proofs.lags.lags_of.Goals as goal

pub returns : goal.returns
returns c = grind (arith, lags_done)

pub loop-first-preserved : goal.loop-first-preserved
loop-first-preserved c = grind (arith, common_steps) steps 2000000
