use Rattle.std.proofs.Common.{◌≡◌, arith, sym, ◌∙◌, subst, Some, None}
use Rattle.tsn_model.specs.Search.{Outcome}
use Rattle.tsn_model.specs.Walk.{IsPlaceOf}
use Rattle.tsn_book.specs.Arena.{path_at, paths_of, IsOpenPlace}
use Rattle.tsn_book.specs.Book.{Progress, IsFault}
use Rattle.tsn_book.specs.declared.fault.BookFault.TheVariants.{NotOpen}
use Rattle.tsn_book.proofs.Asking.{length-made, path_made-at}
use Rattle.tsn_book.proofs.book.Book.open_place.Goals as goal

pub returns-in-Open : goal.returns-in-Open
returns-in-Open c =
    let tree = c.self.inside.ledger.tree in
    let at : IsOpenPlace tree.places.statuses c.in-Open.place × (path_at (paths_of tree.places.origins) c.in-Open.place ≡ c.args.path.now) =
    c.in-Open.ensures in
    let many = length-made c.self.invariant.agrees.tree in
    subst (λ (p : Progress). IsPlaceOf p.history c.args.path.now c.in-Open.place) c.self.view_is
    (record {
      within = omega (arith, at.0.within, c.self.invariant.agrees.tree.counted, many);
      is = sym (path_made-at c.self.invariant.agrees.tree c.in-Open.place) ∙ at.1;
    })

pub returns-in-Settled : goal.returns-in-Settled
returns-in-Settled c =
    subst (λ (p : Progress). (outcome : Outcome)
    → IsFault p.network p.limit p.history (record { path = c.args.path.now; outcome = outcome }) (NotOpen (Some c.in-Settled.number))) c.self.view_is
    (λ outcome. (c.in-Settled.ensures.0, sym c.in-Settled.ensures.1))

pub returns-in-Outside : goal.returns-in-Outside
returns-in-Outside c =
    subst (λ (p : Progress). (outcome : Outcome) → IsFault p.network p.limit p.history (record { path = c.args.path.now; outcome = outcome }) (NotOpen None))
    c.self.view_is
    (λ outcome. (c.in-Outside.ensures.0, sym c.in-Outside.ensures.1))
