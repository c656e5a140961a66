use Rattle.tsn_model.proofs.Arguments.{argued_first}
use Rattle.tsn_laws.proofs.definitions.argued_plans_are_first.Goals as goal

pub returns : goal.returns
returns c = argued_first
