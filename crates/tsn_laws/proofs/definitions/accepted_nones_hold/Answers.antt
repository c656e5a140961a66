use Rattle.tsn_model.proofs.Firsts.{accepted_first_none}
use Rattle.tsn_laws.proofs.definitions.accepted_nones_hold.Goals as goal

pub returns : goal.returns
returns c = accepted_first_none
