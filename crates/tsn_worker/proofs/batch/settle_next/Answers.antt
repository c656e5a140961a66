use Rattle.std.proofs.Common.{arith}
use Rattle.std.proofs.lemmas.Grind.{elements}
use Rattle.tsn_worker.proofs.batch.settle_next.Goals as goal

pub collect-requires-clause-best : goal.collect-requires-clause-best
collect-requires-clause-best c = grind (arith, elements) steps 2000000

pub collect-requires-clause-below : goal.collect-requires-clause-below
collect-requires-clause-below c = grind (arith, elements) steps 2000000

pub collect-requires-clause-most : goal.collect-requires-clause-most
collect-requires-clause-most c = grind (arith, elements) steps 2000000
