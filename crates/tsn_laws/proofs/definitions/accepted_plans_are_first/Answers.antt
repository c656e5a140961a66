use Rattle.tsn_model.proofs.Firsts.{accepted_first}
use Rattle.tsn_laws.proofs.definitions.accepted_plans_are_first.Goals as goal

pub returns : goal.returns
returns c = accepted_first
