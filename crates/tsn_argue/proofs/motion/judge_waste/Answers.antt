use Rattle.std.proofs.Common.{arith}
use Rattle.std.proofs.lemmas.Grind.{common_steps}
use Rattle.tsn_argue.proofs.motion.judge_waste.Goals as goal

pub one-requires : goal.one-requires
one-requires c = grind (arith, common_steps) steps 2000000
