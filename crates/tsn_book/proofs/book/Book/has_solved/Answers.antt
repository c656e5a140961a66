use Rattle.std.proofs.Common.{Contains, sym, subst}
use Rattle.tsn_model.specs.Search.{solved_bounds, settled_by}
use Rattle.tsn_book.specs.Book.{Progress, IsLawful}
use Rattle.tsn_book.proofs.Bookkeeping.{lawful}
use Rattle.tsn_book.proofs.Solving.{solved_found, found_solved}
use Rattle.tsn_book.proofs.book.Book.has_solved.Goals as goal

pub returns-clause-solved : goal.returns-clause-solved
returns-clause-solved c =
    let tree = c.self.inside.ledger.tree in
    let k = c.args.teller in
    let flowspan = c.args.flowspan in (
      λ is. subst (λ (p : Progress). Contains (solved_bounds (settled_by k p.history)) flowspan) c.self.view_is
          (solved_found tree.places.origins tree.events.items k flowspan (c.any_solved.ensures.0 is)),
      λ found. c.any_solved.ensures.1
          (found_solved tree.places.origins tree.events.items k flowspan
          (subst (λ (p : Progress). Contains (solved_bounds (settled_by k p.history)) flowspan) (sym c.self.view_is) found)),
    )

pub returns-clause-lawful : goal.returns-clause-lawful
returns-clause-lawful c =
    subst IsLawful c.self.view_is
    (lawful c.self.invariant.agrees)
