use Rattle.std.proofs.Common.{◌≡◌, ◌<◌, List, ap, length, rules, slice_index_or, subst}
use Rattle.tsn_replay.specs.declared.trace.Row.{Row}
use Rattle.tsn_replay.specs.Rows.{row_text}
use Rattle.tsn_model.proofs.More.{written_more}
use Rattle.tsn_replay.proofs.table.ReplayTable.to_text.Goals as goal

pub loop-row-preserved : goal.loop-row-preserved
loop-row-preserved c =
    let same : c.deref-row-items.result.now ≡ c.args.self.now = search rules in
    let place = c.loop-row.row-index in
    written_more (row_text c.args.problem.now) c.args.self.now place _ _ _ _
    (subst (λ (rows : List Row). place < length rows) same c.loop-row-test.true) c.loop-row.invariant
    c.in_ok-write_row.ensures (ap (λ (rows : List Row). row_text c.args.problem.now (slice_index_or rows place _)) same)
