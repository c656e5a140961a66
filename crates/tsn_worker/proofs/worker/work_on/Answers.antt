use Rattle.std.proofs.Common.{arith}
use Rattle.std.proofs.lemmas.Grind.{elements}
use Rattle.tsn_worker.proofs.worker.work_on.Goals as goal

pub work_below-requires-clause-tables : goal.work_below-requires-clause-tables
work_below-requires-clause-tables c = grind (arith, elements) steps 2000000

pub work_below-requires-clause-even : goal.work_below-requires-clause-even
work_below-requires-clause-even c = grind (arith, elements) steps 2000000

pub returns-in_default-clause-even : goal.returns-in_default-clause-even
returns-in_default-clause-even c = grind (arith, elements) steps 2000000

pub returns-in_default-clause-number : goal.returns-in_default-clause-number
returns-in_default-clause-number c = grind (arith, elements) steps 2000000
