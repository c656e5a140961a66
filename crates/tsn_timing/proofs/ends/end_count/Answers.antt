use Rattle.std.proofs.Common.{length, ap, sym, ◌∙◌, arith}
use Rattle.tsn_timing.proofs.Ending.{longer, as_long, ends_whole}
use Rattle.tsn_timing.proofs.ends.end_count.Goals as goal
use Rattle.tsn_timing.proofs.ends.end_count.Goals.{then-is_heard, else-is_heard}

pub loop-hop-preserved : goal.loop-hop-preserved
loop-hop-preserved c =
    let network = c.args.timing.now in
    let so_far = c.loop-hop.invariant.so_far in
    let few = c.loop-hop.invariant.few in
    elim c.if-is_heard.branch [
      | then-is_heard w ↦
          let more = longer network c.args.stream c.loop-hop.hop (sym c.is_heard.ensures.value ∙ w.if-is_heard.true) in
          let is = w.count-is in
          record { so_far = omega arith; few = omega arith; last = c.loop-hop.invariant.last; short = c.loop-hop.invariant.short }
      | else-is_heard w ↦
          let same = as_long network c.args.stream c.loop-hop.hop (sym c.is_heard.ensures.value ∙ w.if-is_heard.false) in
          let is = w.count-is in
          record { so_far = omega arith; few = omega arith; last = c.loop-hop.invariant.last; short = c.loop-hop.invariant.short }
    ]

pub returns : goal.returns
returns c =
    let past = c.loop-hop-test.false in
    let done = c.loop-hop.auto.hop-end in
    let last = c.loop-hop.invariant.last in
    c.loop-hop.invariant.so_far ∙ ap length (ends_whole c.args.timing.now c.args.stream c.loop-hop.hop (omega arith))
