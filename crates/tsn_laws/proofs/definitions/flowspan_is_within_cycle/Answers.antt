use Rattle.tsn_model.proofs.Schedules.{flowspan-le-cycle}
use Rattle.tsn_laws.proofs.definitions.flowspan_is_within_cycle.Goals as goal

pub returns : goal.returns
returns c = flowspan-le-cycle
