use Rattle.std.proofs.Common.{arith}
use Rattle.std.proofs.lemmas.Grind.{elements}
use Rattle.tsn_incumbent.proofs.desk.Desk.agree.Goals as goal

pub tally-tally-requires : goal.tally-tally-requires
tally-tally-requires c = grind (arith, elements) steps 2000000

pub set_in_place-requires-clause-first : goal.set_in_place-requires-clause-first
set_in_place-requires-clause-first c = grind (arith, elements) steps 2000000

pub set_in_place-requires-clause-second : goal.set_in_place-requires-clause-second
set_in_place-requires-clause-second c = grind (arith, elements) steps 2000000

pub set_in_place-requires-clause-number : goal.set_in_place-requires-clause-number
set_in_place-requires-clause-number c = grind (arith, elements) steps 2000000
