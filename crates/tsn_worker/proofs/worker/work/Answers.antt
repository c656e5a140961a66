use Rattle.std.proofs.Common.{arith}
use Rattle.std.proofs.lemmas.Grind.{elements}
use Rattle.tsn_worker.proofs.worker.work.Goals as goal

pub work_on-requires-clause-tables : goal.work_on-requires-clause-tables
work_on-requires-clause-tables c = grind (arith, elements) steps 2000000

pub work_on-requires-clause-even : goal.work_on-requires-clause-even
work_on-requires-clause-even c = grind (arith, elements) steps 2000000
