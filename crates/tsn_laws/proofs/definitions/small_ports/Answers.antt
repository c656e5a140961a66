use Rattle.tsn_laws.proofs.SmallRoutes.{small_ports}
use Rattle.tsn_laws.proofs.definitions.small_ports.Goals as goal

pub returns : goal.returns
returns c = small_ports
