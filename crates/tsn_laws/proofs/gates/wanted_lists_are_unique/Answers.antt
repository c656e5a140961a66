use Rattle.tsn_gate.proofs.Unique.{one_list_of_lists}
use Rattle.tsn_laws.proofs.gates.wanted_lists_are_unique.Goals as goal

pub returns : goal.returns
returns c = one_list_of_lists
