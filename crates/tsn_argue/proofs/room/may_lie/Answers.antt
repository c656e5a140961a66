use Rattle.std.proofs.Common.{arith}
use Rattle.tsn_argue.specs.State.{view_of}
use Rattle.tsn_argue.proofs.RoomLemmas.{lies, lies_before, lies_behind}
use Rattle.tsn_argue.proofs.room.may_lie.Goals as goal

pub returns-then-end-low : goal.returns-then-end-low
returns-then-end-low c =
    let gap = c.args.gap in
    lies_before c.args.view.now.timing.now c.args.link (view_of c.args.view.now) gap.low gap.high c.args.frame c.args.span c.requires.span (omega arith)

pub returns-then-high-head : goal.returns-then-high-head
returns-then-high-head c =
    let gap = c.args.gap in
    lies_behind c.args.view.now.timing.now c.args.link (view_of c.args.view.now) gap.low gap.high c.args.frame c.args.span c.requires.span (omega arith)
    (omega arith)

pub returns : goal.returns
returns c =
    let gap = c.args.gap in
    lies c.args.view.now.timing.now c.args.link (view_of c.args.view.now) gap.low gap.high c.args.frame c.args.span c.requires.span (omega arith)
    (omega arith)
