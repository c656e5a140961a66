use Rattle.tsn_model.proofs.Arguments.{argued_optimal}
use Rattle.tsn_laws.proofs.definitions.argued_plans_are_optimal.Goals as goal

pub returns : goal.returns
returns c = argued_optimal
