use Rattle.std.proofs.Common.{length}
use Rattle.tsn_argue.specs.Numbers.{AreTouched}
use Rattle.tsn_argue.proofs.numbers.carry_over.Given as goal

abbrev pub invariant-loop-stream : goal.invariant-loop-stream
invariant-loop-stream l = AreTouched l.from l.into l.touched.items

abbrev pub decreases-loop-stream : goal.decreases-loop-stream
decreases-loop-stream l = length l.touched.items
