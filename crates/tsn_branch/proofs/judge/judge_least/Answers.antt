use Rattle.std.proofs.Common.{arith}
use Rattle.std.proofs.lemmas.Grind.{common_steps}
use Rattle.tsn_branch.proofs.judge.judge_least.Goals as goal

pub ends_of-requires : goal.ends_of-requires
ends_of-requires c = grind (arith, common_steps) steps 2000000

pub judge_known-requires-clause-start : goal.judge_known-requires-clause-start
judge_known-requires-clause-start c = grind (arith, common_steps) steps 2000000
