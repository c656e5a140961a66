use Rattle.std.proofs.Common.{rules}
use Rattle.tsn_incumbent.proofs.shared.best_as.Goals as goal

pub returns-clause-best : goal.returns-clause-best
returns-clause-best g c = search rules depth 4
