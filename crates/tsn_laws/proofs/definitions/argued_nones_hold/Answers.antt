use Rattle.tsn_model.proofs.Arguments.{argued_none}
use Rattle.tsn_laws.proofs.definitions.argued_nones_hold.Goals as goal

pub returns : goal.returns
returns c = argued_none
