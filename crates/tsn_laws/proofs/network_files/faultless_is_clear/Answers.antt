use Rattle.tsn_laws.proofs.FirstFault.{faultless_is_clear}
use Rattle.tsn_laws.proofs.network_files.faultless_is_clear.Goals as goal

pub returns : goal.returns
returns c = faultless_is_clear
