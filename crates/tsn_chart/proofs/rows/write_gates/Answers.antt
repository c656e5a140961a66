use Rattle.std.proofs.Common.{arith}
use Rattle.std.proofs.lemmas.Grind.{elements}
use Rattle.tsn_chart.proofs.rows.write_gates.Goals as goal

pub loop-entry-init : goal.loop-entry-init
loop-entry-init c = grind (arith, elements) steps 2000000

pub loop-entry-preserved : goal.loop-entry-preserved
loop-entry-preserved c = grind (arith, elements) steps 2000000
