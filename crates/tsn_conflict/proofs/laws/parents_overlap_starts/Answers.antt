use Rattle.tsn_conflict.proofs.Raised.{premise_from_parent}
use Rattle.tsn_conflict.proofs.laws.parents_overlap_starts.Goals as goal

pub returns : goal.returns
returns c = premise_from_parent
