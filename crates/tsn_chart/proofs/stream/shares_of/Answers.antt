use Rattle.std.proofs.Common.{arith}
use Rattle.std.proofs.lemmas.List.FromFn.{map-range_with_len_more}
use Rattle.tsn_chart.specs.Shares.{stream_share}
use Rattle.tsn_chart.proofs.stream.shares_of.Goals as goal

pub loop-stream-preserved : goal.loop-stream-preserved
loop-stream-preserved c =
    let more = map-range_with_len_more (stream_share c.args.timing.now c.args.valid.now) 0 c.loop-stream.stream c.loop-stream.stream (omega arith) in
    let pushed = c.in_ok-push.ensures.items in
    let before = c.loop-stream.invariant in
    let share = c.stream_share.ensures in
    cc
