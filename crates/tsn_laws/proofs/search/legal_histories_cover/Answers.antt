use Rattle.tsn_model.proofs.Covering.{legal_covers}
use Rattle.tsn_laws.proofs.search.legal_histories_cover.Goals as goal

pub returns : goal.returns
returns c = legal_covers
