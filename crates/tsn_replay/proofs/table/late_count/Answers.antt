use Rattle.std.proofs.Common.{filter, length, ap, ◌∙◌}
use Rattle.std.proofs.lemmas.List.{take_all}
use Rattle.tsn_replay.specs.Rows.{is_late}
use Rattle.tsn_replay.proofs.table.late_count.Goals as goal

pub returns : goal.returns
returns c = c.loop-row.invariant.so_far ∙ ap (λ rows. length (filter is_late rows)) (take_all c.loop-row.row-index c.args.rows.now c.loop-row-test.false)
