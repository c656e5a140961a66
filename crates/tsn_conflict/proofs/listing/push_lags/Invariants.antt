use Rattle.std.proofs.Common.{◌≡◌, ◌++◌, map, take}
use Rattle.tsn_conflict.specs.Rows.{triple_on}
use Rattle.tsn_conflict.proofs.listing.push_lags.Given as goal

abbrev pub invariant-loop-lag : goal.invariant-loop-lag
invariant-loop-lag l = l.triples.items ≡ l.fn.triples.items ++ map (triple_on l.left l.right l.link) (take l.lag-index l.lags)
