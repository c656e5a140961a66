use Rattle.std.proofs.Common.{◌≡◌, ◌++◌, ◌∷◌, [], length, arith, sym, ap, ◌∙◌, subst}
use Rattle.std.proofs.lemmas.Grind.{common_steps}
use Rattle.tsn_model.specs.Search.{made_paths, IsAllowed}
use Rattle.tsn_model.specs.Walk.{path_made}
use Rattle.tsn_conflict.specs.Outcome.{outcome_of}
use Rattle.tsn_book.specs.Arena.{history_of, IsOpenPlace}
use Rattle.tsn_book.specs.Book.{Progress}
use Rattle.tsn_book.proofs.Asking.{length-made, path_made-at}
use Rattle.tsn_book.proofs.book.Book.settle.Goals as goal

pub enter-requires-clause-place : goal.enter-requires-clause-place
enter-requires-clause-place c =
    let inside = c.self.inside in
    let tree = inside.ledger.tree in
    let at : IsOpenPlace tree.places.statuses c.in-Ok.place = c.in-Ok.ensures.0 in
    omega (
      arith,
      at.within,
      c.self.invariant.agrees.tree.counted,
      length-made c.self.invariant.agrees.tree,
      ap (λ (p : Progress). length (made_paths p.history)) c.self.view_is,
    )

pub enter-requires-clause-allowed : goal.enter-requires-clause-allowed
enter-requires-clause-allowed c =
    let inside = c.self.inside in
    let tree = inside.ledger.tree in
    let outcome = outcome_of c.args.event.look in
    let same : c.args.event.node ≡ path_made (history_of tree.places.origins tree.events.items) c.in-Ok.place =
    sym c.in-Ok.ensures.1 ∙ path_made-at c.self.invariant.agrees.tree c.in-Ok.place in
    subst (λ (p : Progress). IsAllowed p.network p.history (record { path = path_made p.history c.in-Ok.place; outcome = outcome })) c.self.view_is
    (subst (λ path. IsAllowed tree.network (history_of tree.places.origins tree.events.items) (record { path = path; outcome = outcome }))
    same c.in-Ok.ensures.3)

pub returns-in-Ok-enter-clause-ok : goal.returns-in-Ok-enter-clause-ok
returns-in-Ok-enter-clause-ok c =
    let before = c.args.self.now in
    let outcome = outcome_of c.args.event.look in
    let same : path_made before.history c.in-Ok.place ≡ c.args.event.node =
    ap (λ (p : Progress). path_made p.history c.in-Ok.place) (sym c.self.view_is)
    ∙ sym (path_made-at c.self.invariant.agrees.tree c.in-Ok.place) ∙ c.in-Ok.ensures.1 in
    c.in-Ok-enter.ensures.ok
    ∙ ap (λ path. let more : Progress = record {
      network = before.network;
      tellers = before.tellers;
      limit = before.limit;
      history = before.history ++ record { teller = c.args.teller; event = record { path = path; outcome = outcome } } ∷ [];
    } in more) same

pub place_for-placed-requires-clause-tree : goal.place_for-placed-requires-clause-tree
place_for-placed-requires-clause-tree c = grind (arith, common_steps) steps 2000000

pub place_for-placed-requires-clause-kept : goal.place_for-placed-requires-clause-kept
place_for-placed-requires-clause-kept c = grind (arith, common_steps) steps 2000000
