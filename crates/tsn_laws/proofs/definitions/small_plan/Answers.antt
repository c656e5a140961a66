use Rattle.tsn_laws.proofs.Small.{small_plan}
use Rattle.tsn_laws.proofs.definitions.small_plan.Goals as goal

pub returns : goal.returns
returns c = small_plan
