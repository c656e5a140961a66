use Rattle.tsn_model.proofs.Soundness.{Accepts-sound}
use Rattle.tsn_laws.proofs.definitions.accepted_trees_bound.Goals as goal

pub returns : goal.returns
returns c = λ network formed target path tree accepts offsets valid held. Accepts-sound network formed target offsets valid tree path accepts held
