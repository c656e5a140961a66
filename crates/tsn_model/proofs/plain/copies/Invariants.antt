use Rattle.std.proofs.Common.{◌≡◌, take}
use Rattle.tsn_model.proofs.plain.copies.Given as goal

abbrev pub invariant-loop-stream : goal.invariant-loop-stream
invariant-loop-stream l = l.copies.items ≡ take l.stream-index l.streams
