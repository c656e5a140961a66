use Rattle.tsn_timing.proofs.Neighbouring.{first_is}
use Rattle.tsn_timing.proofs.timing.Timing.first_slot.Goals as goal

pub returns-clause-value : goal.returns-clause-value
returns-clause-value c =
    first_is c.args.self.now c.args.offset c.args.stream c.args.hop c.start.result c.separation.result c.start.ensures.value c.separation.ensures.value
