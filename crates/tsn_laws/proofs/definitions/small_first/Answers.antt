use Rattle.tsn_laws.proofs.Small as shown
use Rattle.tsn_laws.proofs.definitions.small_first.Goals as goal

pub returns : goal.returns
returns c = shown.small_first
