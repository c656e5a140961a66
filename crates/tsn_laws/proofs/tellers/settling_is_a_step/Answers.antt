use Rattle.tsn_incumbent.proofs.Stepping.{settling}
use Rattle.tsn_laws.proofs.tellers.settling_is_a_step.Goals as goal

pub returns : goal.returns
returns c = settling
