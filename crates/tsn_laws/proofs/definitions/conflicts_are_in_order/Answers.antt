use Rattle.tsn_model.proofs.Conflicts.{conflicts_ordered}
use Rattle.tsn_laws.proofs.definitions.conflicts_are_in_order.Goals as goal

pub returns : goal.returns
returns c = conflicts_ordered
