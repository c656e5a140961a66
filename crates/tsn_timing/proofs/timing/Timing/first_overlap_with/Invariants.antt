use Rattle.std.proofs.Common.{◌≡◌}
use Rattle.tsn_model.specs.Network.{hop_count}
use Rattle.tsn_timing.proofs.Judging.{AreSoFar}
use Rattle.tsn_timing.proofs.timing.Timing.first_overlap_with.Given as goal

abbrev pub invariant-loop-hop : goal.invariant-loop-hop
invariant-loop-hop l = record {
  so_far : AreSoFar l.self l.offsets l.left l.right l.hop l.first;
  end : l.hop-end ≡ hop_count l.self l.left;
}
