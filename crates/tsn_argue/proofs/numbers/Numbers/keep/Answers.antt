use Rattle.std.proofs.Common.{arith}
use Rattle.std.proofs.lemmas.Grind.{common_steps}
use Rattle.tsn_argue.proofs.numbers.Numbers.keep.Goals as goal

pub invariant_of-self : goal.invariant_of-self
invariant_of-self c = grind (arith, common_steps) steps 2000000

pub returns-clause-base : goal.returns-clause-base
returns-clause-base c = grind (arith, common_steps) steps 2000000
