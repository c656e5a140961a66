use Rattle.tsn_laws.proofs.UniqueMerged.{lists_by_once}
use Rattle.tsn_laws.proofs.gates.lists_by_are_unique.Goals as goal

pub returns : goal.returns
returns c = lists_by_once
