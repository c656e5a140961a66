use Rattle.std.proofs.Common.{arith}
use Rattle.std.proofs.lemmas.Grind.{common_steps}
use Rattle.tsn_chart.proofs.choice.push_users.Goals as goal

pub loop-user-preserved : goal.loop-user-preserved
loop-user-preserved c = grind (arith, common_steps) steps 2000000
