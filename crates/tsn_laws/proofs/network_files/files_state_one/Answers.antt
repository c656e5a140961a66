use Rattle.tsn_net.proofs.Stating.{stated_once}
use Rattle.tsn_laws.proofs.network_files.files_state_one.Goals as goal

pub returns : goal.returns
returns c = stated_once
