use Rattle.tsn_laws.proofs.SmallLost.{small_lost}
use Rattle.tsn_laws.proofs.definitions.small_lost.Goals as goal

pub returns : goal.returns
returns c = small_lost
