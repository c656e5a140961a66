use Rattle.tsn_cli.proofs.LawLemmas.{proved}
use Rattle.tsn_cli.proofs.laws.proved_is_accepted.Goals as goal

pub returns : goal.returns
returns c = proved c.first_faults_refute.ensures
