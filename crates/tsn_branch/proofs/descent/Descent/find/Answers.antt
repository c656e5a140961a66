use Rattle.std.proofs.Common.{arith}
use Rattle.std.proofs.lemmas.Grind.{common_steps}
use Rattle.tsn_branch.proofs.descent.Descent.find.Goals as goal

pub judge_raised-requires-clause-best : goal.judge_raised-requires-clause-best
judge_raised-requires-clause-best c = grind (arith, common_steps) steps 2000000

pub judge_least-requires-clause-best : goal.judge_least-requires-clause-best
judge_least-requires-clause-best c = grind (arith, common_steps) steps 2000000
