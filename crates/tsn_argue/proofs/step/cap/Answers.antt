use Rattle.std.proofs.Common.{◌≡◌, pos, get_or, to_z, arith}
use Rattle.std.specs.Int.{w128}
use Rattle.std.proofs.lemmas.Int.{ints}
use Rattle.tsn_argue.proofs.CapState.{cap_begin, cap_more, cap_stop, cap_end}
use Rattle.tsn_argue.proofs.step.cap.Goals as goal

pub loop-stream-init : goal.loop-stream-init
loop-stream-init c = cap_begin c.args.view.now c.args.plan.now c.requires.sound

pub loop-stream-preserved : goal.loop-stream-preserved
loop-stream-preserved c =
    let is : to_z w128 (get_or c.args.plan.now c.loop-stream.stream 0) ≡ pos (get_or c.args.plan.now c.loop-stream.stream 0) = omega (arith, ints) in
    cap_more c.args.view.now c.loop-stream.view c.lower.new.self c.args.plan.now c.loop-stream.stream _
    c.requires.count c.loop-stream-test.true c.loop-stream.invariant
    is c.in_ok-lower.ensures (omega (arith, ints, c.if-at-offset.false))

pub returns-after-loop-stream : goal.returns-after-loop-stream
returns-after-loop-stream c =
    cap_end c.args.view.now c.loop-stream.view c.args.plan.now c.loop-stream.stream c.requires.count
    c.loop-stream-test.false c.loop-stream.auto.stream-end c.loop-stream.invariant

pub returns-then-at-offset : goal.returns-then-at-offset
returns-then-at-offset c =
    let is : to_z w128 (get_or c.args.plan.now c.loop-stream.stream 0) ≡ pos (get_or c.args.plan.now c.loop-stream.stream 0) = omega (arith, ints) in
    cap_stop c.args.view.now c.loop-stream.view c.lower.new.self c.args.plan.now c.loop-stream.stream _
    c.requires.count c.loop-stream-test.true c.loop-stream.invariant
    is c.in_ok-lower.ensures (omega (arith, ints, c.if-at-offset.true))
