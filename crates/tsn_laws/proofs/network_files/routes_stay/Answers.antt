use Rattle.tsn_laws.proofs.OneRoute.{stays}
use Rattle.tsn_laws.proofs.network_files.routes_stay.Goals as goal

pub returns : goal.returns
returns c = stays
