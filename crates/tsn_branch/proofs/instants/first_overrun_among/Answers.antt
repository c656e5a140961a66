use Rattle.std.proofs.Common.{arith}
use Rattle.std.proofs.lemmas.Grind.{elements}
use Rattle.tsn_branch.proofs.instants.first_overrun_among.Goals as goal

pub returns : goal.returns
returns c = grind (arith, elements) steps 2000000
