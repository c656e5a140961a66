use Rattle.std.proofs.Common.{◌≡◌, ◌≤◌, take, filter, length}
use Rattle.tsn_replay.specs.Rows.{is_late}
use Rattle.tsn_replay.proofs.table.late_count.Given as goal

abbrev pub invariant-loop-row : goal.invariant-loop-row
invariant-loop-row l = record { so_far : l.late ≡ length (filter is_late (take l.row-index l.rows)); few : l.late ≤ l.row-index }
