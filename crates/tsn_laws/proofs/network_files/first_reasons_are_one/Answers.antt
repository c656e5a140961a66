use Rattle.tsn_laws.proofs.OneReason.{first_reasons_are_one}
use Rattle.tsn_laws.proofs.network_files.first_reasons_are_one.Goals as goal

pub returns : goal.returns
returns c = first_reasons_are_one
