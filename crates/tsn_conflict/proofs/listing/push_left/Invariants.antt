use Rattle.std.proofs.Common.{◌≡◌, ◌++◌, filter}
use Rattle.tsn_model.specs.Network.{stream_count}
use Rattle.tsn_model.specs.Arcs.{is_conflict}
use Rattle.tsn_conflict.specs.Rows.{triples_left}
use Rattle.tsn_conflict.proofs.listing.push_left.Given as goal

abbrev pub invariant-loop-right : goal.invariant-loop-right
invariant-loop-right l = record {
  so_far : l.triples.items ≡ l.fn.triples.items ++ filter (is_conflict l.timing) (triples_left l.timing l.left l.right);
  end : l.right-end ≡ stream_count l.timing;
}
