use Rattle.tsn_model.proofs.Soundness.{accepted_none}
use Rattle.tsn_laws.proofs.definitions.accepted_refutations_hold.Goals as goal

pub returns : goal.returns
returns c = accepted_none
