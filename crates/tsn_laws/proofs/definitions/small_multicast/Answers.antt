use Rattle.tsn_laws.proofs.SmallRoutes.{small_multicast}
use Rattle.tsn_laws.proofs.definitions.small_multicast.Goals as goal

pub returns : goal.returns
returns c = small_multicast
