use Rattle.tsn_laws.proofs.Sparing.{wide_spared}
use Rattle.tsn_laws.proofs.gates.wide_times_are_spared.Goals as goal

pub returns : goal.returns
returns c = wide_spared
