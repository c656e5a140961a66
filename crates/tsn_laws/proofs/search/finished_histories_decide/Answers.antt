use Rattle.tsn_model.proofs.Finished.{finished_plan}
use Rattle.tsn_laws.proofs.search.finished_histories_decide.Goals as goal

pub returns : goal.returns
returns c = finished_plan
