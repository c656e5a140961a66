use Rattle.std.proofs.Common.{◌≡◌, ◌≤◌, [], ◌∷◌, ◌++◌, length, map}
use Rattle.std.specs.List.{range_with_len}
use Rattle.tsn_model.specs.Timing.{arrival, hop_end, greatest}
use Rattle.tsn_timing.proofs.tables.span_of.Given as goal

abbrev pub invariant-loop-k : goal.invariant-loop-k
invariant-loop-k l = record {
  so_far : l.time ≡ greatest ((arrival l.network l.stream ∷ []) ++ map (hop_end l.network l.stream) (range_with_len 0 l.k));
  bound : l.time ≤ 230000000;
  end : l.k-end ≡ length l.hops;
}
