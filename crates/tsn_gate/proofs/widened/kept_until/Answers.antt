use Rattle.std.proofs.Common.{arith}
use Rattle.std.proofs.lemmas.Grind.{common_steps}
use Rattle.tsn_gate.proofs.widened.kept_until.Goals as goal

pub returns-then-index-kept-clause-inner : goal.returns-then-index-kept-clause-inner
returns-then-index-kept-clause-inner c = grind (arith, common_steps) steps 2000000

pub returns-else-index-kept-clause-last : goal.returns-else-index-kept-clause-last
returns-else-index-kept-clause-last c = grind (arith, common_steps) steps 2000000
