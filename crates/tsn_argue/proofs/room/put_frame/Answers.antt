use Rattle.std.proofs.Common.{◌≡◌, ℕ, ◌^◌, ◌<◌, sym, ap, ◌∙◌, subst, arith}
use Rattle.std.proofs.lemmas.Grind.{common_steps}
use Rattle.tsn_model.specs.Argument.{inserted}
use Rattle.tsn_sums.specs.Sums.{key_of, AreLow}
use Rattle.tsn_argue.specs.State.{view_of}
use Rattle.tsn_argue.proofs.RoomLemmas.{row_added, row_left_out, works_with}
use Rattle.tsn_argue.proofs.room.put_frame.Goals as goal

pub returns-then-not-may_lie-clause-rows : goal.returns-then-not-may_lie-clause-rows
returns-then-not-may_lie-clause-rows c =
    let view = c.args.view.now in
    let gap = c.args.gap in
    sym (row_left_out view.timing.now c.args.link (view_of view) gap.low gap.high c.args.is_left c.args.frame c.args.rows.now
    c.if-not-may_lie.ensures)

pub returns-clause-rows : goal.returns-clause-rows
returns-clause-rows c =
    let view = c.args.view.now in
    let gap = c.args.gap in
    c.put.ensures
    ∙ (λ i. inserted key_of (c.key_of-key.ensures i, c.span_of-span.ensures.work i) c.args.rows.now)
    ∙ sym (row_added view.timing.now c.args.link (view_of view) gap.low gap.high c.args.is_left c.args.frame c.args.rows.now
    c.if-not-may_lie.ensures)

pub returns-clause-low : goal.returns-clause-low
returns-clause-low c = λ low.
    let view = c.args.view.now in
    let gap = c.args.gap in
    let whole = c.put.ensures
    ∙ (λ i. inserted key_of (c.key_of-key.ensures i, c.span_of-span.ensures.work i) c.args.rows.now)
    ∙ sym (row_added view.timing.now c.args.link (view_of view) gap.low gap.high c.args.is_left c.args.frame c.args.rows.now
    c.if-not-may_lie.ensures) in
    subst AreLow (sym whole)
    (works_with view.timing.now c.args.link (view_of view) gap.low gap.high c.args.is_left (λ n. n < 2 ^ 32) c.args.frame
    c.args.rows.now
    (omega (arith, c.span_of-span.ensures.work, c.span_of-span.ensures.work_small)) low)

pub span_of-span-requires-clause-on : goal.span_of-span-requires-clause-on
span_of-span-requires-clause-on c = grind (arith, common_steps) steps 2000000
