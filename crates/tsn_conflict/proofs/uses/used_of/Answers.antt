use Rattle.std.proofs.Common.{arith}
use Rattle.std.proofs.lemmas.Grind.{common_steps}
use Rattle.tsn_conflict.proofs.uses.used_of.Goals as goal

pub loop-link-preserved : goal.loop-link-preserved
loop-link-preserved c = grind (arith, common_steps) steps 2000000
