use Rattle.std.proofs.Common.{arith}
use Rattle.std.proofs.lemmas.Grind.{elements}
use Rattle.tsn_worker.proofs.batch.post_solved.Goals as goal

pub post_as-requires-clause-solved : goal.post_as-requires-clause-solved
post_as-requires-clause-solved c = grind (arith, elements) steps 2000000

pub post_as-requires-clause-least : goal.post_as-requires-clause-least
post_as-requires-clause-least c = grind (arith, elements) steps 2000000
