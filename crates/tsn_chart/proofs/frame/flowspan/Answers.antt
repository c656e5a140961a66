use Rattle.std.proofs.Common.{arith}
use Rattle.std.proofs.lemmas.Grind.{common_steps}
use Rattle.tsn_chart.proofs.frame.flowspan.Goals as goal

pub loop-stream-preserved : goal.loop-stream-preserved
loop-stream-preserved c = grind (arith, common_steps) steps 2000000
