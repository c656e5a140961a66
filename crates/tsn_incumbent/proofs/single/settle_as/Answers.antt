use Rattle.std.proofs.Common.{arith}
use Rattle.std.proofs.lemmas.Grind.{elements}
use Rattle.tsn_incumbent.proofs.single.settle_as.Goals as goal

pub settle_at-requires-clause-table : goal.settle_at-requires-clause-table
settle_at-requires-clause-table c = grind (arith, elements) steps 2000000

pub settle_at-requires-clause-proof : goal.settle_at-requires-clause-proof
settle_at-requires-clause-proof c = grind (arith, elements) steps 2000000

pub settle_at-requires-clause-seen : goal.settle_at-requires-clause-seen
settle_at-requires-clause-seen c = grind (arith, elements) steps 2000000
