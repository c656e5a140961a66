use Rattle.tsn_model.proofs.Finished as shown
use Rattle.tsn_laws.proofs.search.right_stays.Goals as goal

pub returns : goal.returns
returns c = shown.right_stays
