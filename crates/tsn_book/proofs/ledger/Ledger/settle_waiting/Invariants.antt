use Rattle.std.proofs.Common.{length}
use Rattle.tsn_book.proofs.Partway.{IsPartway}
use Rattle.tsn_book.proofs.ledger.Ledger.settle_waiting.Given as goal

abbrev pub invariant-loop-self : goal.invariant-loop-self
invariant-loop-self l = IsPartway l.initial.self l.self l.teller l.initial.walk l.walk l.place

abbrev pub decreases-loop-self : goal.decreases-loop-self
decreases-loop-self l = length l.self.tree.events.waiting
