use Rattle.tsn_model.proofs.Conflicts.{conflict_listed, listed_conflict}
use Rattle.tsn_laws.proofs.definitions.conflicts_are_listed.Goals as goal

pub returns : goal.returns
returns c = λ network formed triple. (listed_conflict network triple, conflict_listed network formed triple)
