use Rattle.tsn_timing.proofs.Neighbouring.{AreSoFar}
use Rattle.tsn_timing.proofs.timing.Timing.push_slots.Given as goal

abbrev pub invariant-loop-user : goal.invariant-loop-user
invariant-loop-user l = AreSoFar l.self l.offsets l.link l.user-items l.user-index l.slots.items
