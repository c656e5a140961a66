use Rattle.std.proofs.Common.{◌≡◌, map, take}
use Rattle.tsn_model.specs.Network.{route_of, hop_count}
use Rattle.tsn_model.specs.Timing.{separation, greatest}
use Rattle.tsn_model.proofs.plain.PlainNetwork.pace.Given as goal

abbrev pub invariant-loop-k : goal.invariant-loop-k
invariant-loop-k l = record {
  so_far : l.pace ≡ greatest (map (separation l.self l.i) (take l.k (route_of l.self l.i)));
  last : l.k-end ≡ hop_count l.self l.i;
}
