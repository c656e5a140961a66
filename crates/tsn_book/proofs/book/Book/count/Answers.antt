use Rattle.std.proofs.Common.{length, arith, ap, subst}
use Rattle.tsn_book.specs.Book.{Progress, IsLawful}
use Rattle.tsn_book.proofs.Asking.{length-history_of}
use Rattle.tsn_book.proofs.Bookkeeping.{lawful}
use Rattle.tsn_book.proofs.book.Book.count.Goals as goal

pub returns-clause-count : goal.returns-clause-count
returns-clause-count c =
    let tree = c.self.inside.ledger.tree in
    omega (arith, c.len.ensures.count, length-history_of tree.places.origins tree.events.items, ap (λ (p : Progress). length p.history) c.self.view_is)

pub returns-clause-lawful : goal.returns-clause-lawful
returns-clause-lawful c =
    subst IsLawful c.self.view_is
    (lawful c.self.invariant.agrees)
