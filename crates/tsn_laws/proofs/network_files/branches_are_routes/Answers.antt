use Rattle.tsn_net.proofs.WellFormedTrees.{is_tree}
use Rattle.tsn_laws.proofs.network_files.branches_are_routes.Goals as goal

pub returns : goal.returns
returns c = is_tree
