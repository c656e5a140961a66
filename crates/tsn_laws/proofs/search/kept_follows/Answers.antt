use Rattle.tsn_model.proofs.Following.{kept_lower_after, kept_even_after, kept_same_after}
use Rattle.tsn_laws.proofs.search.kept_follows.Goals as goal

pub returns : goal.returns
returns c = λ network history settlement legal. (kept_lower_after network history settlement, kept_even_after network history settlement, kept_same_after network history settlement)
