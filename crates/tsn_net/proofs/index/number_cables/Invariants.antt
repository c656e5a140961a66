use Rattle.std.proofs.Common.{map, take}
use Rattle.toml.specs.View.{view}
use Rattle.tsn_net.specs.Index.{AreCableNumbers}
use Rattle.tsn_net.proofs.index.number_cables.Given as goal

-- the numbers of the cables so far
abbrev pub invariant-loop-k : goal.invariant-loop-k
invariant-loop-k l = AreCableNumbers (map view (take l.k l.cables)) l.numbers
