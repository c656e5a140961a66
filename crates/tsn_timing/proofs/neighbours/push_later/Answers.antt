use Rattle.std.proofs.Common.{arith}
use Rattle.std.proofs.lemmas.Grind.{common_steps}
use Rattle.tsn_timing.proofs.neighbours.push_later.Goals as goal

pub loop-shift-preserved : goal.loop-shift-preserved
loop-shift-preserved c = grind (arith, common_steps) steps 2000000

pub returns : goal.returns
returns c = grind (arith, common_steps) steps 2000000
