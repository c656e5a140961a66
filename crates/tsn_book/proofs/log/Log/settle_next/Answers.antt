use Rattle.std.proofs.Common.{arith}
use Rattle.std.proofs.lemmas.Grind.{common_steps}
use Rattle.tsn_book.proofs.log.Log.settle_next.Goals as goal

pub invariant_of-self : goal.invariant_of-self
invariant_of-self c = grind (arith, common_steps) steps 2000000

pub returns-clause-items : goal.returns-clause-items
returns-clause-items c = grind (arith, common_steps) steps 2000000

pub returns-clause-waiting : goal.returns-clause-waiting
returns-clause-waiting c = grind (arith, common_steps) steps 2000000
