use Rattle.std.proofs.Common.{◌<◌, length, arith, sym, ap, ◌∙◌, subst}
use Rattle.tsn_model.specs.Search.{made_paths, IsAllowed}
use Rattle.tsn_model.specs.Walk.{path_made}
use Rattle.tsn_conflict.specs.Outcome.{outcome_of}
use Rattle.tsn_conflict.specs.Right.{HasProof, SplitsUndecided}
use Rattle.tsn_book.specs.Arena.{history_of}
use Rattle.tsn_book.specs.Book.{Progress, IsFault}
use Rattle.tsn_book.proofs.Asking.{length-made, path_made-at}
use Rattle.tsn_book.proofs.book.Book.fault_at.Goals as goal

pub admit_at-admitted-requires-clause-place : goal.admit_at-admitted-requires-clause-place
admit_at-admitted-requires-clause-place c =
    omega (arith, c.requires.place, length-made c.self.invariant.agrees.tree, ap (λ (p : Progress). length (made_paths p.history)) c.self.view_is)

pub admit_at-admitted-requires-clause-path : goal.admit_at-admitted-requires-clause-path
admit_at-admitted-requires-clause-path c =
    c.requires.path ∙ ap (λ (p : Progress). path_made p.history c.args.place) (sym c.self.view_is)
    ∙ sym (path_made-at c.self.invariant.agrees.tree c.args.place)

pub admit_at-admitted-requires-clause-proof : goal.admit_at-admitted-requires-clause-proof
admit_at-admitted-requires-clause-proof c =
    let tree = c.self.inside.ledger.tree in
    subst (λ path. HasProof tree.network path (outcome_of c.args.look.now)) (sym (path_made-at c.self.invariant.agrees.tree c.args.place))
    (subst (λ (p : Progress). HasProof p.network (path_made p.history c.args.place) (outcome_of c.args.look.now)) (sym c.self.view_is) c.requires.proof)

pub admit_at-admitted-requires-clause-undecided : goal.admit_at-admitted-requires-clause-undecided
admit_at-admitted-requires-clause-undecided c =
    let tree = c.self.inside.ledger.tree in
    subst (λ path. SplitsUndecided tree.network path (outcome_of c.args.look.now)) (sym (path_made-at c.self.invariant.agrees.tree c.args.place))
    (subst (λ (p : Progress). SplitsUndecided p.network (path_made p.history c.args.place) (outcome_of c.args.look.now)) (sym c.self.view_is)
    c.requires.undecided)

pub returns-in-Err : goal.returns-in-Err
returns-in-Err c =
    let inside = c.self.inside in
    let tree = inside.ledger.tree in
    let outcome = outcome_of c.args.look.now in
    subst (λ (p : Progress). IsFault p.network p.limit p.history (record { path = path_made p.history c.args.place; outcome = outcome }) c.in-Err.fault)
    c.self.view_is
    (subst (λ path. IsFault tree.network inside.ledger.bounds.limit (history_of tree.places.origins tree.events.items)
    (record { path = path; outcome = outcome }) c.in-Err.fault)
    (path_made-at c.self.invariant.agrees.tree c.args.place) c.in-Err.ensures)

pub returns-in-Ok : goal.returns-in-Ok
returns-in-Ok c =
    let inside = c.self.inside in
    let tree = inside.ledger.tree in
    let outcome = outcome_of c.args.look.now in
    subst (λ (p : Progress). (length p.history < p.limit)
    × IsAllowed p.network p.history (record { path = path_made p.history c.args.place; outcome = outcome })) c.self.view_is (
      c.in-Ok.ensures.0,
      subst (λ path. IsAllowed tree.network (history_of tree.places.origins tree.events.items) (record { path = path; outcome = outcome }))
          (path_made-at c.self.invariant.agrees.tree c.args.place) c.in-Ok.ensures.1,
    )
