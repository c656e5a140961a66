use Rattle.tsn_timing.proofs.Neighbouring.{AreFollowing}
use Rattle.tsn_timing.proofs.neighbours.each_before_next.Given as goal

abbrev pub invariant-loop-index : goal.invariant-loop-index
invariant-loop-index l = AreFollowing l.slots l.index
