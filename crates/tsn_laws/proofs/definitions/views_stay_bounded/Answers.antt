use Rattle.tsn_model.proofs.ArgumentNumbers.{IsBounded-first, IsBounded-learned, IsBounded-settled}
use Rattle.tsn_laws.proofs.definitions.views_stay_bounded.Goals as goal

pub returns : goal.returns
returns c = λ network goal. (IsBounded-first network goal, IsBounded-learned network, IsBounded-settled network goal)
