use Rattle.tsn_laws.proofs.SmallGates as shown
use Rattle.tsn_laws.proofs.gates.small_gates.Goals as goal

pub returns : goal.returns
returns c = shown.small_gates
