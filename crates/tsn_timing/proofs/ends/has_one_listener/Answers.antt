use Rattle.std.proofs.Common.{arith}
use Rattle.std.proofs.lemmas.Grind.{common_steps}
use Rattle.tsn_timing.proofs.ends.has_one_listener.Goals as goal

pub loop-hop-preserved : goal.loop-hop-preserved
loop-hop-preserved c = grind (arith, common_steps) steps 2000000
