use Rattle.tsn_model.proofs.Ties.{after_sooner}
use Rattle.tsn_laws.proofs.definitions.ties_stay.Goals as goal

pub returns : goal.returns
returns c = after_sooner
