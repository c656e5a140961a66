use Rattle.std.proofs.Common.{length, ap, subst, ◌∙◌}
use Rattle.tsn_model.specs.Search.{open_paths}
use Rattle.tsn_book.specs.Book.{Progress, IsLawful}
use Rattle.tsn_book.proofs.Bookkeeping.{lawful}
use Rattle.tsn_book.proofs.book.Book.open_count.Goals as goal

pub returns-clause-count : goal.returns-clause-count
returns-clause-count c = c.self.invariant.agrees.summary.counted ∙ ap (λ (p : Progress). length (open_paths p.history)) c.self.view_is

pub returns-clause-lawful : goal.returns-clause-lawful
returns-clause-lawful c =
    subst IsLawful c.self.view_is
    (lawful c.self.invariant.agrees)
