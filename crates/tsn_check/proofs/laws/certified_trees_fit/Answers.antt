use Rattle.tsn_check.proofs.Fitting.{certified_fits}
use Rattle.tsn_check.proofs.laws.certified_trees_fit.Goals as goal

pub returns : goal.returns
returns c = certified_fits
