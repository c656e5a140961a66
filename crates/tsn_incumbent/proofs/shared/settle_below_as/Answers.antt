use Rattle.std.proofs.Common.{arith}
use Rattle.std.proofs.lemmas.Grind.{elements}
use Rattle.tsn_incumbent.proofs.shared.settle_below_as.Goals as goal

pub settle_below_at-requires-clause-table : goal.settle_below_at-requires-clause-table
settle_below_at-requires-clause-table c = grind (arith, elements) steps 2000000

pub settle_below_at-requires-clause-proofs : goal.settle_below_at-requires-clause-proofs
settle_below_at-requires-clause-proofs c = grind (arith, elements) steps 2000000

pub settle_below_at-requires-clause-seen : goal.settle_below_at-requires-clause-seen
settle_below_at-requires-clause-seen c = grind (arith, elements) steps 2000000
