use Rattle.tsn_book.specs.Arena.{IsClosing}
use Rattle.tsn_book.proofs.arena.Tree.mark.Given as goal

abbrev pub invariant-loop-parent : goal.invariant-loop-parent
invariant-loop-parent l = IsClosing l.self.places.statuses l.closed l.place

abbrev pub decreases-loop-parent : goal.decreases-loop-parent
decreases-loop-parent l = l.place
