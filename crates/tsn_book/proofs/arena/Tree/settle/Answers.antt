use Rattle.std.proofs.Common.{arith}
use Rattle.std.proofs.lemmas.Grind.{common_steps}
use Rattle.tsn_book.proofs.arena.Tree.settle.Goals as goal

pub split-requires-clause-tree : goal.split-requires-clause-tree
split-requires-clause-tree c = grind (arith, common_steps) steps 2000000

pub split-requires-clause-open : goal.split-requires-clause-open
split-requires-clause-open c = grind (arith, common_steps) steps 2000000

pub close-requires-clause-tree : goal.close-requires-clause-tree
close-requires-clause-tree c = grind (arith, common_steps) steps 2000000

pub close-requires-clause-open : goal.close-requires-clause-open
close-requires-clause-open c = grind (arith, common_steps) steps 2000000

pub close-requires-clause-right : goal.close-requires-clause-right
close-requires-clause-right c = grind (arith, common_steps) steps 2000000

pub returns-in-Some-clause-tree : goal.returns-in-Some-clause-tree
returns-in-Some-clause-tree c = grind (arith, common_steps) steps 2000000

pub returns-in-Some-clause-network : goal.returns-in-Some-clause-network
returns-in-Some-clause-network c = grind (arith, common_steps) steps 2000000

pub returns-in-Some-clause-waiting : goal.returns-in-Some-clause-waiting
returns-in-Some-clause-waiting c = grind (arith, common_steps) steps 2000000

pub returns-in-None-clause-tree : goal.returns-in-None-clause-tree
returns-in-None-clause-tree c = grind (arith, common_steps) steps 2000000

pub returns-in-None-clause-network : goal.returns-in-None-clause-network
returns-in-None-clause-network c = grind (arith, common_steps) steps 2000000

pub returns-in-None-clause-history : goal.returns-in-None-clause-history
returns-in-None-clause-history c = grind (arith, common_steps) steps 2000000

pub returns-in-None-clause-waiting : goal.returns-in-None-clause-waiting
returns-in-None-clause-waiting c = grind (arith, common_steps) steps 2000000
