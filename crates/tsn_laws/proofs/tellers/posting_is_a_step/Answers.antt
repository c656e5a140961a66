use Rattle.tsn_incumbent.proofs.Stepping.{posting}
use Rattle.tsn_laws.proofs.tellers.posting_is_a_step.Goals as goal

pub returns : goal.returns
returns c = posting
