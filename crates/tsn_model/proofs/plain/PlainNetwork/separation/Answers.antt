use Rattle.std.proofs.Common.{arith}
use Rattle.tsn_model.specs.Timing.{separation}
use Rattle.tsn_model.proofs.plain.PlainNetwork.separation.Goals as goal

pub returns-clause-value : goal.returns-clause-value
unfolding separation
returns-clause-value c =
    let occupied = c.occupancy.ensures.value in
    let slack = c.slack.ensures.value in
    omega arith
