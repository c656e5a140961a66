use Rattle.std.proofs.Common.{arith}
use Rattle.std.proofs.lemmas.Grind.{common_steps}
use Rattle.tsn_argue.proofs.numbers.Numbers.go_back.Goals as goal

pub invariant_of-self : goal.invariant_of-self
invariant_of-self c = grind (arith, common_steps) steps 2000000

pub returns-clause-view : goal.returns-clause-view
returns-clause-view c = grind (arith, common_steps) steps 2000000
