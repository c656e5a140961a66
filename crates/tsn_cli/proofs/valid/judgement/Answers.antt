use Rattle.tsn_model.proofs.Schedules.{offsets_within}
use Rattle.tsn_cli.proofs.valid.judgement.Goals as goal

pub flowspan-flowspan-requires-clause-small : goal.flowspan-flowspan-requires-clause-small
flowspan-flowspan-requires-clause-small c = offsets_within c.args.schedule.timing.now c.args.schedule.offsets.now c.in-Valid.ensures
