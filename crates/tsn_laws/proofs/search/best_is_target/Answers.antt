use Rattle.tsn_model.proofs.BestBounds.{best_is_below}
use Rattle.tsn_laws.proofs.search.best_is_target.Goals as goal

pub returns : goal.returns
returns c = λ network history legal. let below = best_is_below network history legal in (below.solved, below.pruned)
