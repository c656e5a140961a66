use Rattle.tsn_laws.proofs.SmallEarly.{small_early}
use Rattle.tsn_laws.proofs.definitions.small_early.Goals as goal

pub returns : goal.returns
returns c = small_early
