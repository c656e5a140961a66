use Rattle.std.proofs.Common.{arith}
use Rattle.tsn_chart.proofs.Listening.{spread-le}
use Rattle.tsn_chart.proofs.stream.stream_share.Goals as goal

pub overflow_sub-result : goal.overflow_sub-result
overflow_sub-result c =
    let within = spread-le c.args.timing.now c.cycle-limits.ensures.well_formed c.args.stream c.requires.stream in
    let spread = c.spread.ensures.value in
    let arrival = c.arrival-2.ensures.value in
    omega arith
