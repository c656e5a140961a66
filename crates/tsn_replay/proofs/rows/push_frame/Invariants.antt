use Rattle.std.proofs.Common.{◌≡◌, ◌++◌, map}
use Rattle.std.specs.List.{range_with_len}
use Rattle.tsn_model.specs.Network.{hop_count}
use Rattle.tsn_replay.specs.Rows.{row_of}
use Rattle.tsn_replay.proofs.ReplayTables.{passage_at}
use Rattle.tsn_replay.proofs.rows.push_frame.Given as goal

abbrev pub invariant-loop-hop : goal.invariant-loop-hop
invariant-loop-hop l = record {
  so_far : l.rows.items ≡ l.fn.rows.items ++ map (row_of l.times.timing.now l.times.offsets.now l.times.width l.times.table.now)
      (map (passage_at l.cycle l.stream l.shift) (range_with_len 0 l.hop));
  last : l.hop-end ≡ hop_count l.times.timing.now l.stream;
}
