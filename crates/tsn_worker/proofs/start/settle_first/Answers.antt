use Rattle.std.proofs.Common.{arith}
use Rattle.std.proofs.lemmas.Grind.{elements}
use Rattle.tsn_worker.proofs.start.settle_first.Goals as goal

pub dive-requires-clause-tables : goal.dive-requires-clause-tables
dive-requires-clause-tables c = grind (arith, elements) steps 2000000

pub dive-requires-clause-even : goal.dive-requires-clause-even
dive-requires-clause-even c = grind (arith, elements) steps 2000000

pub settle_until-requires-clause-tables : goal.settle_until-requires-clause-tables
settle_until-requires-clause-tables c = grind (arith, elements) steps 2000000

pub settle_until-requires-clause-even : goal.settle_until-requires-clause-even
settle_until-requires-clause-even c = grind (arith, elements) steps 2000000
