use Rattle.std.proofs.Common.{◌≡◌, ◌++◌, flat_map, take}
use Rattle.tsn_model.specs.Arcs.{lags_of}
use Rattle.tsn_conflict.specs.Rows.{triples_on}
use Rattle.tsn_conflict.proofs.listing.push_pair.Given as goal

abbrev pub invariant-loop-link : goal.invariant-loop-link
invariant-loop-link l = record {
  so_far : l.triples.items ≡ l.fn.triples.items ++ flat_map (triples_on l.timing l.left l.right) (take l.link-index l.link-items);
  lags : l.lags.items ≡ lags_of l.timing l.left l.right;
}
