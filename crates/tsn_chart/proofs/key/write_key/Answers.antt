use Rattle.std.proofs.Common.{arith}
use Rattle.std.proofs.lemmas.Grind.{common_steps}
use Rattle.tsn_chart.proofs.key.write_key.Goals as goal

pub loop-column-preserved : goal.loop-column-preserved
loop-column-preserved c = grind (arith, common_steps) steps 2000000

pub loop-stream-init : goal.loop-stream-init
loop-stream-init c = grind (arith, common_steps) steps 2000000

pub loop-stream-preserved : goal.loop-stream-preserved
loop-stream-preserved c = grind (arith, common_steps) steps 2000000
