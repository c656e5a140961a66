use Rattle.std.proofs.Common.{◌≡◌, map, take}
use Rattle.tsn_conflict.specs.Rows.{uses_in}
use Rattle.tsn_conflict.specs.Pairs.{pair_in}
use Rattle.tsn_conflict.proofs.pairs.pairs_of.Given as goal

abbrev pub invariant-loop-triple : goal.invariant-loop-triple
invariant-loop-triple l = l.pairs.items ≡ map (pair_in (uses_in l.rows)) (take l.triple-index l.triples)
