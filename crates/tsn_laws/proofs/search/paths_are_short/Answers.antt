use Rattle.tsn_model.specs.Arcs.{conflicts_of}
use Rattle.tsn_model.proofs.Conflicts.{conflict_listed}
use Rattle.tsn_model.proofs.Counting.{made_decides, length-le-conflicts}
use Rattle.tsn_laws.proofs.search.paths_are_short.Goals as goal

pub returns : goal.returns
returns c = λ network formed history legal path made. length-le-conflicts network (conflicts_of network) (conflict_listed network formed) path (made_decides network history legal path made)
