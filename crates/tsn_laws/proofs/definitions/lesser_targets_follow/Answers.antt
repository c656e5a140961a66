use Rattle.tsn_model.proofs.Trees.{Proves-lesser}
use Rattle.tsn_laws.proofs.definitions.lesser_targets_follow.Goals as goal

pub returns : goal.returns
returns c = Proves-lesser
