use Rattle.std.proofs.Common.{◌≡◌, ◌≤◌, length}
use Rattle.tsn_model.specs.Network.{hop_count}
use Rattle.tsn_timing.proofs.Ending.{ends_upto}
use Rattle.tsn_timing.proofs.ends.end_count.Given as goal

abbrev pub invariant-loop-hop : goal.invariant-loop-hop
invariant-loop-hop l = record {
  so_far : l.count ≡ length (ends_upto l.timing l.stream l.hop);
  few : l.count ≤ l.hop;
  last : l.hop-end ≡ hop_count l.timing l.stream;
  short : l.hop-end ≤ 64;
}
