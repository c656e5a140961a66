use Rattle.std.proofs.Common.{◌<◌, ◌≤◌, arith}
use Rattle.std.proofs.lemmas.Grind.{common_steps}
use Rattle.tsn_model.specs.Network.{burst_of, period_of}
use Rattle.tsn_timing.proofs.Sending.{Sends-counted, sent_at, placed}
use Rattle.tsn_timing.proofs.timing.Timing.is_shift.Goals as goal

pub returns-then-stream-streams : goal.returns-then-stream-streams
returns-then-stream-streams c =
    λ sent.
    let counted = Sends-counted c.args.self.now c.args.stream c.args.shift sent in
    omega arith

pub returns-then-begin-period : goal.returns-then-begin-period
returns-then-begin-period c =
    let in_burst : c.loop-place.place < burst_of c.args.self.now c.args.stream = omega arith in
    sent_at c.args.self.now c.args.stream c.args.shift c.loop-place.place c.period-period.result c.pace.result c.turns.result
    c.period-period.ensures.value c.pace.ensures.value c.turns.ensures.value in_burst c.if-before-shift.true c.if-begin-period-eq0.true c.if-begin-period.true

pub returns : goal.returns
returns c =
    λ sent.
    let lasts : 1 ≤ period_of c.args.self.now c.args.stream = omega arith in
    let frame = placed c.args.self.now c.args.stream c.args.shift lasts sent in
    c.loop-place.invariant.none frame.0 (omega arith) frame.2

pub loop-place-preserved : goal.loop-place-preserved
loop-place-preserved c = grind (arith, common_steps) steps 2000000
