use Rattle.std.proofs.Common.{arith}
use Rattle.std.proofs.lemmas.Grind.{common_steps}
use Rattle.tsn_worker.proofs.learned.learned_by.Goals as goal

pub judged-requires-clause-timing : goal.judged-requires-clause-timing
judged-requires-clause-timing c = grind (arith, common_steps) steps 2000000

pub judged-requires-clause-known : goal.judged-requires-clause-known
judged-requires-clause-known c = grind (arith, common_steps) steps 2000000

pub judged-requires-in-Some-clause-timing : goal.judged-requires-in-Some-clause-timing
judged-requires-in-Some-clause-timing c = grind (arith, common_steps) steps 2000000

pub judged-requires-in-Some-clause-known : goal.judged-requires-in-Some-clause-known
judged-requires-in-Some-clause-known c = grind (arith, common_steps) steps 2000000

pub given_up-requires-clause-timing : goal.given_up-requires-clause-timing
given_up-requires-clause-timing c = grind (arith, common_steps) steps 2000000

pub given_up-requires-clause-known : goal.given_up-requires-clause-known
given_up-requires-clause-known c = grind (arith, common_steps) steps 2000000
