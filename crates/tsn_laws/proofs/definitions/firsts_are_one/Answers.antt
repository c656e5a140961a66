use Rattle.tsn_model.proofs.Firsts.{first_once}
use Rattle.tsn_laws.proofs.definitions.firsts_are_one.Goals as goal

pub returns : goal.returns
returns c = first_once
