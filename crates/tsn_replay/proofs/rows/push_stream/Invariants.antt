use Rattle.std.proofs.Common.{◌≡◌, ◌++◌, map, take}
use Rattle.std.specs.List.{flat_map}
use Rattle.tsn_model.specs.Timing.{shifts}
use Rattle.tsn_replay.specs.Rows.{row_of, frame_passages}
use Rattle.tsn_replay.proofs.rows.push_stream.Given as goal

abbrev pub invariant-loop-shift : goal.invariant-loop-shift
invariant-loop-shift l = record {
  so_far : l.rows.items ≡ l.fn.rows.items ++ map (row_of l.times.timing.now l.times.offsets.now l.times.width l.times.table.now)
      (flat_map (frame_passages l.times.timing.now l.cycle l.stream) (take l.shift-index (shifts l.times.timing.now l.stream)));
}
