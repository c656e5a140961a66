use Rattle.tsn_model.proofs.Kept as shown
use Rattle.tsn_laws.proofs.search.kept_is_first.Goals as goal

pub returns : goal.returns
returns c = shown.kept_is_first
