use Rattle.tsn_model.proofs.OnTime.{closed_hold}
use Rattle.tsn_laws.proofs.definitions.closed_gates_hold.Goals as goal

pub returns : goal.returns
returns c = closed_hold
