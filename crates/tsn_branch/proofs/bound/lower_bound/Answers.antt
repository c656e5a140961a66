use Rattle.std.proofs.Common.{arith}
use Rattle.std.proofs.lemmas.Grind.{common_steps}
use Rattle.tsn_branch.proofs.bound.lower_bound.Goals as goal

pub returns-then-higher-bound : goal.returns-then-higher-bound
returns-then-higher-bound c = grind (arith, common_steps) steps 2000000
