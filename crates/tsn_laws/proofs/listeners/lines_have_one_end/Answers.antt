use Rattle.tsn_timing.proofs.Ending.{one_end}
use Rattle.tsn_laws.proofs.listeners.lines_have_one_end.Goals as goal

pub returns : goal.returns
returns c = one_end
