use Rattle.std.proofs.Common.{◌≡◌}
use Rattle.tsn_model.specs.Places.{pending}
use Rattle.tsn_model.specs.Walk.{IsPlaceOf}
use Rattle.tsn_book.specs.Arena.{settled_in}
use Rattle.tsn_book.proofs.ledger.Ledger.go_on.Given as goal

abbrev pub invariant-loop-parent : goal.invariant-loop-parent
invariant-loop-parent l = record {
  at : IsPlaceOf (settled_in l.self.tree) l.walk l.place;
  same : pending l.walk ≡ pending l.initial.walk;
}

abbrev pub decreases-loop-parent : goal.decreases-loop-parent
decreases-loop-parent l = l.place
