use Rattle.tsn_incumbent.proofs.Stepping.{settling_all}
use Rattle.tsn_laws.proofs.tellers.settling_all_is_steps.Goals as goal

pub returns : goal.returns
returns c = settling_all
