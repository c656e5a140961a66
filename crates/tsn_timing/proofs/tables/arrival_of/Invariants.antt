use Rattle.std.proofs.Common.{◌≡◌, ◌≤◌, length, map}
use Rattle.std.specs.List.{range_with_len}
use Rattle.tsn_model.specs.Timing.{hop_arrival, greatest}
use Rattle.tsn_timing.proofs.tables.arrival_of.Given as goal

abbrev pub invariant-loop-k : goal.invariant-loop-k
invariant-loop-k l = record {
  so_far : l.time ≡ greatest (map (hop_arrival l.network l.stream) (range_with_len 0 l.k));
  bound : l.time ≤ 230000000;
  end : l.k-end ≡ length l.hops;
}
