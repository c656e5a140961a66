use Rattle.tsn_branch.proofs.Leasts.{small_offsets}
use Rattle.tsn_branch.proofs.instants.ends_after.Goals as goal

pub last_arrival_among-last-requires-clause-small : goal.last_arrival_among-last-requires-clause-small
last_arrival_among-last-requires-clause-small c =
    small_offsets c.args.timing.now c.args.offsets.now c.cycle-cycle.ensures.well_formed c.requires.count c.in_default.ensures
