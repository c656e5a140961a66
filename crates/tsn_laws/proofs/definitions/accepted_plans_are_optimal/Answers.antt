use Rattle.tsn_model.proofs.Soundness.{accepted_optimal}
use Rattle.tsn_laws.proofs.definitions.accepted_plans_are_optimal.Goals as goal

pub returns : goal.returns
returns c = accepted_optimal
