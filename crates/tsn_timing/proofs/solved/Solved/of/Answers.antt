use Rattle.tsn_model.proofs.Schedules.{offsets_within}
use Rattle.tsn_timing.proofs.solved.Solved.of.Goals as goal

pub flowspan-flowspan-requires-clause-small : goal.flowspan-flowspan-requires-clause-small
flowspan-flowspan-requires-clause-small c = rw c.offsets.ensures (offsets_within c.args.timing.now c.args.valid c.requires)
