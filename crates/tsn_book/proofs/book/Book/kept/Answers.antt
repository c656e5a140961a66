use Rattle.std.proofs.Common.{◌≡◌, ◌+◌, subst}
use Rattle.std.specs.Prelude.{MatchOption}
use Rattle.tsn_timing.specs.Solution.{IsSolved}
use Rattle.tsn_model.specs.Search.{best_bound}
use Rattle.tsn_book.specs.Arena.{history_of}
use Rattle.tsn_book.specs.Book.{Progress, IsLawful}
use Rattle.tsn_book.proofs.Bookkeeping.{lawful, none_best, match_gives}
use Rattle.tsn_book.proofs.book.Book.kept.Goals as goal

pub returns-clause-best : goal.returns-clause-best
returns-clause-best c =
    let tree = c.self.inside.ledger.tree in
    let history = history_of tree.places.origins tree.events.items in
    subst (λ (p : Progress). MatchOption c.kept.result (best_bound p.network p.history ≡ p.network.cycle + 1)
    (λ solved. IsSolved p.network solved.now × (solved.now.flowspan ≡ best_bound p.network p.history))) c.self.view_is
    (match_gives c.kept.result _ _ _ (λ solved. IsSolved tree.network solved.now × (solved.now.flowspan ≡ best_bound tree.network history))
    (none_best c.self.invariant.agrees.tree.legal) (λ solved is. (is.1, is.2)) c.kept.ensures)

pub returns-clause-lawful : goal.returns-clause-lawful
returns-clause-lawful c =
    subst IsLawful c.self.view_is (lawful c.self.invariant.agrees)
