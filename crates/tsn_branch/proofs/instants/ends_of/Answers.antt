use Rattle.tsn_branch.proofs.Leasts.{small_offsets}
use Rattle.tsn_branch.proofs.instants.ends_of.Goals as goal

pub last_arrival-last-requires-clause-small : goal.last_arrival-last-requires-clause-small
last_arrival-last-requires-clause-small c = small_offsets c.args.timing.now c.args.offsets.now c.cycle-cycle.ensures.well_formed c.requires c.in_default.ensures
