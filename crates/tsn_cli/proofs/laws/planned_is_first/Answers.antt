use Rattle.tsn_cli.proofs.LawLemmas.{planned_first}
use Rattle.tsn_cli.proofs.laws.planned_is_first.Goals as goal

pub returns : goal.returns
returns c = planned_first
