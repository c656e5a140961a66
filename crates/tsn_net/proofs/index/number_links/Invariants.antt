use Rattle.std.proofs.Common.{take}
use Rattle.tsn_net.specs.Index.{AreLinkNumbers}
use Rattle.tsn_net.proofs.index.number_links.Given as goal

-- the numbers of the links so far
abbrev pub invariant-loop-k : goal.invariant-loop-k
invariant-loop-k l = AreLinkNumbers (take l.k l.links) l.numbers
