use Rattle.tsn_check.proofs.Fitting.{right_fits}
use Rattle.tsn_check.proofs.laws.right_plans_fit.Goals as goal

pub returns : goal.returns
returns c = right_fits
