use Rattle.std.proofs.Common.{◌≡◌, ◌++◌, map}
use Rattle.std.specs.List.{flat_map, range_with_len}
use Rattle.tsn_model.specs.Network.{stream_count}
use Rattle.tsn_replay.specs.Rows.{row_of, stream_passages}
use Rattle.tsn_replay.proofs.rows.push_cycle.Given as goal

abbrev pub invariant-loop-stream : goal.invariant-loop-stream
invariant-loop-stream l = record {
  so_far : l.rows.items ≡ l.fn.rows.items ++ map (row_of l.times.timing.now l.times.offsets.now l.times.width l.times.table.now) (flat_map (stream_passages l.times.timing.now l.cycle) (range_with_len 0 l.stream));
  last : l.stream-end ≡ stream_count l.times.timing.now;
}
