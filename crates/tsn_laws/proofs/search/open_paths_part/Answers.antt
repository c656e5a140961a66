use Rattle.tsn_laws.proofs.OpenOrder.{open_paths_part}
use Rattle.tsn_laws.proofs.search.open_paths_part.Goals as goal

pub returns : goal.returns
returns c = open_paths_part
