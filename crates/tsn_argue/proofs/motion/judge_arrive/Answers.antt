use Rattle.std.proofs.Common.{arith}
use Rattle.std.proofs.lemmas.Grind.{common_steps}
use Rattle.tsn_model.specs.Argument.{shown}
use Rattle.tsn_argue.proofs.motion.judge_arrive.Goals as goal

pub returns : goal.returns
unfolding shown
returns c = grind (arith, common_steps)
