use Rattle.tsn_laws.proofs.FirstFault.{faults_are_first}
use Rattle.tsn_laws.proofs.network_files.faults_are_first.Goals as goal

pub returns : goal.returns
returns c = faults_are_first
