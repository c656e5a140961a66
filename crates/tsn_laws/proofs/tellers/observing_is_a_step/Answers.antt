use Rattle.tsn_incumbent.proofs.Stepping.{observing}
use Rattle.tsn_laws.proofs.tellers.observing_is_a_step.Goals as goal

pub returns : goal.returns
returns c = observing
