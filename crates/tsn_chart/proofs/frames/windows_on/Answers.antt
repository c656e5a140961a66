use Rattle.std.proofs.Common.{◌+◌, ◌<◌, ◌∙◌, arith}
use Rattle.tsn_model.specs.Network.{stream_count}
use Rattle.tsn_chart.proofs.Counting.{upto-few, windows-more, windows-le, windows_all}
use Rattle.tsn_chart.proofs.frames.windows_on.Goals as goal

pub overflow_add-windows : goal.overflow_add-windows
overflow_add-windows c =
    let network = c.args.network.now in
    let stream = c.loop-stream.stream in
    let last = c.loop-stream.invariant.last in
    let counted : stream < stream_count network = let below = c.loop-stream-test.true in omega arith in
    let within = windows-le network c.args.link stream c.loop-stream.windows counted c.loop-stream.invariant.few in
    let few = upto-few network c.cycle-limits.ensures.well_formed (stream + 1) in
    let here = c.frames_on-windows.ensures in
    omega arith

pub loop-stream-preserved : goal.loop-stream-preserved
loop-stream-preserved c =
    let network = c.args.network.now in
    let stream = c.loop-stream.stream in
    let last = c.loop-stream.invariant.last in
    let counted : stream < stream_count network = let below = c.loop-stream-test.true in omega arith in
    let so_far = c.loop-stream.invariant.so_far in
    let more = windows-more network c.args.link stream in
    let within = windows-le network c.args.link stream c.loop-stream.windows counted c.loop-stream.invariant.few in
    let here = c.frames_on-windows.ensures in
    record { so_far = omega arith; few = omega arith; last = c.loop-stream.invariant.last }

pub returns : goal.returns
returns c =
    let ended = c.loop-stream-test.false in
    let done = c.loop-stream.auto.stream-end in
    let last = c.loop-stream.invariant.last in
    c.loop-stream.invariant.so_far ∙ windows_all c.args.network.now c.args.link c.loop-stream.stream (omega arith)
