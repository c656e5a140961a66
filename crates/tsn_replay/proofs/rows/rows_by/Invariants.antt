use Rattle.std.proofs.Common.{◌≡◌, ◌≤◌, map}
use Rattle.std.specs.List.{flat_map, range_with_len}
use Rattle.tsn_replay.specs.Rows.{row_of, cycle_passages}
use Rattle.tsn_replay.proofs.rows.rows_by.Given as goal

abbrev pub invariant-loop-cycle : goal.invariant-loop-cycle
invariant-loop-cycle l = record {
  so_far : l.rows.items ≡ map (row_of l.times.timing.now l.times.offsets.now l.times.width l.times.table.now)
      (flat_map (cycle_passages l.times.timing.now) (range_with_len 0 l.cycle));
  upto : l.cycle ≤ l.times.cycles;
}
