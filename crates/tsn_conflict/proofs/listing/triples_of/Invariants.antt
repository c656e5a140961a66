use Rattle.std.proofs.Common.{◌≡◌}
use Rattle.tsn_model.specs.Network.{stream_count}
use Rattle.tsn_conflict.proofs.Triples.{conflicts_first}
use Rattle.tsn_conflict.proofs.listing.triples_of.Given as goal

abbrev pub invariant-loop-left : goal.invariant-loop-left
invariant-loop-left l = record {
  so_far : l.triples.items ≡ conflicts_first l.timing l.left;
  end : l.left-end ≡ stream_count l.timing;
}
