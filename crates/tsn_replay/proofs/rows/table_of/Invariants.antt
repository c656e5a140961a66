use Rattle.std.proofs.Common.{◌≡◌, length, take}
use Rattle.tsn_replay.specs.Rows.{IsTable}
use Rattle.tsn_replay.proofs.rows.table_of.Given as goal

abbrev pub invariant-loop-started : goal.invariant-loop-started
invariant-loop-started l = record { table : IsTable l.timing l.width l.cycles (take l.started-index l.starts) l.table.items; last : l.started-index-end ≡ length l.starts }
