use Rattle.std.proofs.Common.{map, take}
use Rattle.toml.specs.View.{view}
use Rattle.tsn_net.specs.Index.{AreNameNumbers}
use Rattle.tsn_net.proofs.index.number_names.Given as goal

-- the numbers of the tables so far
abbrev pub invariant-loop-k : goal.invariant-loop-k
invariant-loop-k l = AreNameNumbers (map view (take l.k l.tables)) l.numbers
