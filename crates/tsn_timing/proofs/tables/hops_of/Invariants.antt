use Rattle.std.proofs.Common.{◌≡◌}
use Rattle.tsn_model.specs.Network.{hop_count}
use Rattle.tsn_timing.specs.Tables.{AreRight, IsHop}
use Rattle.tsn_timing.proofs.tables.hops_of.Given as goal

abbrev pub invariant-loop-hop : goal.invariant-loop-hop
invariant-loop-hop l = record {
  right : AreRight (IsHop l.network l.stream) l.hop l.hops.items;
  end : l.hop-end ≡ hop_count l.network l.stream;
}
