use Rattle.std.proofs.Common.{arith}
use Rattle.std.proofs.lemmas.Grind.{common_steps}
use Rattle.tsn_diff.proofs.labels.Labels.raise.Goals as goal

pub returns-clause-offsets : goal.returns-clause-offsets
returns-clause-offsets c = grind (arith, common_steps) steps 2000000

pub returns-clause-last : goal.returns-clause-last
returns-clause-last c = grind (arith, common_steps) steps 2000000
