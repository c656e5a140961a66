use Rattle.std.proofs.Common.{arith}
use Rattle.std.proofs.lemmas.Grind.{common_steps}
use Rattle.tsn_outcome.proofs.outcome.PlaceDisplay.fmt.Goals as goal

pub returns-in-Overlap-clause-writes : goal.returns-in-Overlap-clause-writes
returns-in-Overlap-clause-writes c = grind (arith, common_steps) steps 2000000

pub returns-in-PastCycle-clause-writes : goal.returns-in-PastCycle-clause-writes
returns-in-PastCycle-clause-writes c = grind (arith, common_steps) steps 2000000

pub returns-in-Some-clause-writes : goal.returns-in-Some-clause-writes
returns-in-Some-clause-writes c = grind (arith, common_steps) steps 2000000
