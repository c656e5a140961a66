use Rattle.std.proofs.Common.{subst}
use Rattle.tsn_book.specs.Book.{IsLawful}
use Rattle.tsn_book.proofs.Bookkeeping.{lawful}
use Rattle.tsn_book.proofs.book.Book.tally.Goals as goal

pub returns-clause-lawful : goal.returns-clause-lawful
returns-clause-lawful c =
    subst IsLawful c.self.view_is
    (lawful c.self.invariant.agrees)
