use Rattle.std.proofs.Common.{arith}
use Rattle.tsn_model.proofs.Schedules.{arrival-le-flowspan}
use Rattle.tsn_branch.proofs.bound.least_arrival.Goals as goal

pub loop-stream-init : goal.loop-stream-init
loop-stream-init c offsets valid = omega arith

pub loop-stream-preserved : goal.loop-stream-preserved
loop-stream-preserved c offsets valid =
    let stream = c.loop-stream.stream in
    let counted = c.loop-stream-test.true in
    let before = c.loop-stream.invariant offsets valid in
    let released = valid.released stream (omega arith) in
    let arrives = arrival-le-flowspan c.args.timing.now offsets stream (omega arith) in
    omega (arith, c.max-bound.ensures, c.release.ensures.value, c.arrival.ensures.value)
