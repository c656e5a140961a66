use Rattle.tsn_model.specs.Arcs.{conflicts_of}
use Rattle.tsn_model.proofs.Conflicts.{conflict_listed}
use Rattle.tsn_model.proofs.Counting.{length-legal, length-legal_open}
use Rattle.tsn_laws.proofs.search.histories_are_short.Goals as goal

pub returns : goal.returns
returns c = λ network formed history legal. (
  length-legal network (conflicts_of network) (conflict_listed network formed) history legal,
  length-legal_open network (conflicts_of network) (conflict_listed network formed) history legal,
)
