use Rattle.std.proofs.Common.{◌≡◌, ◌≤◌, map}
use Rattle.std.specs.List.{range_with_len}
use Rattle.tsn_model.specs.Network.{hop_count}
use Rattle.tsn_model.specs.Timing.{hop_arrival, greatest}
use Rattle.tsn_model.proofs.plain.PlainNetwork.arrival.Given as goal

abbrev pub invariant-loop-k : goal.invariant-loop-k
invariant-loop-k l = record {
  so_far : l.last ≡ greatest (map (hop_arrival l.self l.i) (range_with_len 0 l.k));
  bound : l.last ≤ 230000000;
  end : l.k-end ≡ hop_count l.self l.i;
}
