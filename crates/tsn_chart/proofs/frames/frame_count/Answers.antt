use Rattle.std.proofs.Common.{◌+◌, ◌<◌, ◌∙◌, arith}
use Rattle.tsn_model.specs.Network.{stream_count}
use Rattle.tsn_chart.proofs.Counting.{upto-more, upto-few, upto_all}
use Rattle.tsn_chart.proofs.frames.frame_count.Goals as goal

pub overflow_add-frames : goal.overflow_add-frames
overflow_add-frames c =
    let network = c.args.network.now in
    let last = c.loop-stream.invariant.last in
    let counted : c.loop-stream.stream < stream_count network = let below = c.loop-stream-test.true in omega arith in
    let so_far = c.loop-stream.invariant.so_far in
    let more = upto-more network c.loop-stream.stream counted in
    let few = upto-few network c.cycle-limits.ensures.well_formed (c.loop-stream.stream + 1) in
    let here = c.frames_of-frames.ensures in
    omega arith

pub loop-stream-preserved : goal.loop-stream-preserved
loop-stream-preserved c =
    let network = c.args.network.now in
    let last = c.loop-stream.invariant.last in
    let counted : c.loop-stream.stream < stream_count network = let below = c.loop-stream-test.true in omega arith in
    let so_far = c.loop-stream.invariant.so_far in
    let more = upto-more network c.loop-stream.stream counted in
    let here = c.frames_of-frames.ensures in
    record { so_far = omega arith; last = c.loop-stream.invariant.last }

pub returns : goal.returns
returns c =
    let ended = c.loop-stream-test.false in
    let done = c.loop-stream.auto.stream-end in
    let last = c.loop-stream.invariant.last in
    c.loop-stream.invariant.so_far ∙ upto_all c.args.network.now c.loop-stream.stream (omega arith)
