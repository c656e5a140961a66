use Rattle.tsn_model.proofs.Kept.{kept_valid, kept_target}
use Rattle.tsn_laws.proofs.search.kept_is_best.Goals as goal

pub returns : goal.returns
returns c = λ network history legal. (kept_valid network history legal, kept_target network history legal)
