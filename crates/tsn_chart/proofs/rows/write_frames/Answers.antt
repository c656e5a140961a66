use Rattle.std.proofs.Common.{arith}
use Rattle.std.proofs.lemmas.Grind.{elements}
use Rattle.tsn_chart.proofs.rows.write_frames.Goals as goal

pub loop-shift-preserved : goal.loop-shift-preserved
loop-shift-preserved c = grind (arith, elements) steps 2000000
