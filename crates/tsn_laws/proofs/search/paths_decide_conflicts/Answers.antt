use Rattle.tsn_model.proofs.Counting.{made_decides}
use Rattle.tsn_laws.proofs.search.paths_decide_conflicts.Goals as goal

pub returns : goal.returns
returns c = λ network history legal path made. let decides = made_decides network history legal path made in (decides.different, decides.conflicts)
