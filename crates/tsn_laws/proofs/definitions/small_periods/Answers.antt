use Rattle.tsn_laws.proofs.SmallPeriods.{small_periods}
use Rattle.tsn_laws.proofs.definitions.small_periods.Goals as goal

pub returns : goal.returns
returns c = small_periods
