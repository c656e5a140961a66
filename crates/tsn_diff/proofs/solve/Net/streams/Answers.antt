use Rattle.std.proofs.Common.{arith}
use Rattle.std.proofs.lemmas.Grind.{common_steps}
use Rattle.tsn_diff.proofs.solve.Net.streams.Goals as goal

pub returns-in-Zero : goal.returns-in-Zero
returns-in-Zero c = grind (arith, common_steps) steps 2000000
