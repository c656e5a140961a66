use Rattle.tsn_model.proofs.Routes.{burst-le-period}
use Rattle.tsn_laws.proofs.definitions.bursts_fit.Goals as goal

pub returns : goal.returns
returns c = λ network offsets valid i below. burst-le-period network offsets i valid below
