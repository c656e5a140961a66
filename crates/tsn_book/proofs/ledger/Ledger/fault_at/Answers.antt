use Rattle.std.proofs.Common.{arith}
use Rattle.std.proofs.lemmas.Grind.{common_steps}
use Rattle.tsn_book.proofs.ledger.Ledger.fault_at.Goals as goal

pub admit-requires-clause-at : goal.admit-requires-clause-at
admit-requires-clause-at c = grind (arith, common_steps) steps 2000000

pub admit-requires-clause-proof : goal.admit-requires-clause-proof
admit-requires-clause-proof c = grind (arith, common_steps) steps 2000000

pub admit-requires-clause-undecided : goal.admit-requires-clause-undecided
admit-requires-clause-undecided c = grind (arith, common_steps) steps 2000000
