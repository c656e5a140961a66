use Rattle.std.proofs.Common.{arith}
use Rattle.std.proofs.lemmas.Grind.{common_steps}
use Rattle.tsn_incumbent.proofs.halves.Halves.set_in_place.Goals as goal

pub set_by-requires-clause-tally : goal.set_by-requires-clause-tally
set_by-requires-clause-tally c = grind (arith, common_steps) steps 2000000
