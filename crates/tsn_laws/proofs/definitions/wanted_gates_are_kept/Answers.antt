use Rattle.tsn_model.proofs.OnTime.{wanted_kept}
use Rattle.tsn_laws.proofs.definitions.wanted_gates_are_kept.Goals as goal

pub returns : goal.returns
returns c = wanted_kept
