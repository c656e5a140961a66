use Rattle.tsn_model.proofs.Histories.{made_apart, settled_once}
use Rattle.tsn_laws.proofs.search.paths_are_made_once.Goals as goal

pub returns : goal.returns
returns c = λ network history legal. (made_apart network history legal, settled_once network history legal)
