use Rattle.std.proofs.Common.{◌≡◌, ◌++◌, [], length, reverse, slice_index_or}
use Rattle.tsn_diff.proofs.forest.Forest.chain.Given as goal

abbrev pub invariant-loop-index : goal.invariant-loop-index
invariant-loop-index l = l.walk ++ reverse l.chain.items ≡ slice_index_or l.self l.stream []

abbrev pub decreases-loop-index : goal.decreases-loop-index
decreases-loop-index l = length l.walk
