use Rattle.std.proofs.Common.{◌≡◌, take}
use Rattle.tsn_conflict.proofs.chains.whole_chains.Given as goal

abbrev pub invariant-loop-stream : goal.invariant-loop-stream
invariant-loop-stream l = l.list.items ≡ take l.stream l.forest
