use Rattle.tsn_gate.proofs.Wanted.{AreListsBelow}
use Rattle.tsn_gate.proofs.lists.lists_of.Given as goal

abbrev pub invariant-loop-link : goal.invariant-loop-link
invariant-loop-link l = AreListsBelow l.timing l.offsets l.link l.lists.items
