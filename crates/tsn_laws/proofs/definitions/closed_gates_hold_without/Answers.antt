use Rattle.tsn_model.proofs.OnTime.{closed_hold_without}
use Rattle.tsn_laws.proofs.definitions.closed_gates_hold_without.Goals as goal

pub returns : goal.returns
returns c = closed_hold_without
