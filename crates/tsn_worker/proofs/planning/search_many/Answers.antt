use Rattle.std.proofs.Common.{arith}
use Rattle.std.proofs.lemmas.Grind.{common_steps}
use Rattle.tsn_worker.proofs.planning.search_many.Goals as goal

pub learn_of-requires-clause-timing : goal.learn_of-requires-clause-timing
learn_of-requires-clause-timing c = grind (arith, common_steps) steps 2000000

pub learn_of-requires-clause-known : goal.learn_of-requires-clause-known
learn_of-requires-clause-known c = grind (arith, common_steps) steps 2000000

pub returns-in-Shown-clause-team : goal.returns-in-Shown-clause-team
returns-in-Shown-clause-team c = grind (arith, common_steps) steps 2000000

pub returns-in-Some-clause-team : goal.returns-in-Some-clause-team
returns-in-Some-clause-team c = grind (arith, common_steps) steps 2000000

pub returns-in-None-clause-found : goal.returns-in-None-clause-found
returns-in-None-clause-found c = grind (arith, common_steps) steps 2000000

pub returns-in-None-clause-team : goal.returns-in-None-clause-team
returns-in-None-clause-team c = grind (arith, common_steps) steps 2000000
