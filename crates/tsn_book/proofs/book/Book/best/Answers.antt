use Rattle.std.proofs.Common.{sym, subst}
use Rattle.tsn_model.specs.SearchLaws.{IsBelowBounds}
use Rattle.tsn_book.specs.Arena.{history_of}
use Rattle.tsn_book.specs.Book.{Progress, IsLawful}
use Rattle.tsn_book.proofs.Bookkeeping.{lawful, best_target}
use Rattle.tsn_book.proofs.book.Book.best.Goals as goal

pub returns-clause-lawful : goal.returns-clause-lawful
returns-clause-lawful c =
    subst IsLawful c.self.view_is
    (lawful c.self.invariant.agrees)

pub returns-clause-target : goal.returns-clause-target
returns-clause-target c =
    let inside = c.self.inside in
    let tree = inside.ledger.tree in
    let history = history_of tree.places.origins tree.events.items in
    subst (λ (p : Progress). IsBelowBounds p.network inside.ledger.bounds.best p.history) c.self.view_is
    (subst (λ best. IsBelowBounds tree.network best history) (sym c.self.invariant.agrees.summary.lowest) (best_target c.self.invariant.agrees.tree.legal))
