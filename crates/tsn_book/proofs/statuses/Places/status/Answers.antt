use Rattle.std.proofs.Common.{arith}
use Rattle.std.proofs.lemmas.Grind.{common_steps}
use Rattle.tsn_book.proofs.statuses.Places.status.Goals as goal

pub overflow_mul-result : goal.overflow_mul-result
overflow_mul-result c = grind (arith, common_steps) steps 2000000

pub overflow_add-result : goal.overflow_add-result
overflow_add-result c = grind (arith, common_steps) steps 2000000

pub returns-in-Open-clause-known : goal.returns-in-Open-clause-known
returns-in-Open-clause-known c = grind (arith, common_steps) steps 2000000

pub returns-in-Open-clause-small : goal.returns-in-Open-clause-small
returns-in-Open-clause-small c = grind (arith, common_steps) steps 2000000

pub returns-in-Split-clause-known : goal.returns-in-Split-clause-known
returns-in-Split-clause-known c = grind (arith, common_steps) steps 2000000

pub returns-in-Split-clause-small : goal.returns-in-Split-clause-small
returns-in-Split-clause-small c = grind (arith, common_steps) steps 2000000

pub returns-in-Leaf-clause-known : goal.returns-in-Leaf-clause-known
returns-in-Leaf-clause-known c = grind (arith, common_steps) steps 2000000

pub returns-in-Leaf-clause-small : goal.returns-in-Leaf-clause-small
returns-in-Leaf-clause-small c = grind (arith, common_steps) steps 2000000
