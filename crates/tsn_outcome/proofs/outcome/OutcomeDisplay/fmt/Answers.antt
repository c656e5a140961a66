use Rattle.std.proofs.Common.{arith}
use Rattle.std.proofs.lemmas.Grind.{common_steps}
use Rattle.tsn_outcome.proofs.outcome.OutcomeDisplay.fmt.Goals as goal

pub returns-in-Undercut-clause-writes : goal.returns-in-Undercut-clause-writes
returns-in-Undercut-clause-writes c = grind (arith, common_steps) steps 2000000
