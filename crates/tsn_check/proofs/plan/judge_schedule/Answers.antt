use Rattle.tsn_model.proofs.Schedules.{offsets_within}
use Rattle.tsn_check.proofs.plan.judge_schedule.Goals as goal

pub flowspan-wanted-requires-clause-small : goal.flowspan-wanted-requires-clause-small
flowspan-wanted-requires-clause-small c = offsets_within c.args.timing.now c.args.offsets.now c.in_default.ensures
