use Rattle.std.proofs.Common.{◌≡◌, Any, rules, sym, subst, arith}
use Rattle.std.proofs.lemmas.Result.{err_from_is_err_and}
use Rattle.std.proofs.lemmas.Grind.{common_steps}
use Rattle.tsn_model.specs.Schedule.{IsConflict}
use Rattle.tsn_model.specs.Replies.{SplitsNone, SplitsAgain}
use Rattle.tsn_conflict.specs.Outcome.{outcome_of}
use Rattle.tsn_conflict.specs.Right.{SplitsUndecided}
use Rattle.tsn_book.specs.Arena.{path_at, paths_of, history_of, IsOpenPlace, IsPathEnd}
use Rattle.tsn_book.specs.Book.{IsFault, IsMet}
use Rattle.tsn_book.proofs.Asking.{open_stop, undecided, right_from, splits_nothing}
use Rattle.tsn_book.proofs.arena.Tree.place_for.Goals as goal

pub returns-in_err-place : goal.returns-in_err-place
returns-in_err-place c =
    let self = c.args.self.now in
    let history = history_of self.places.origins self.events.items in
    let p = err_from_is_err_and c.from_residual.result c.from_residual.ensures.1 in
    rw (p.1, p.2) (subst (λ path. IsFault self.network c.args.bounds.limit history (record { path = path; outcome = outcome_of c.args.event.now.look })
    c.in_err-place.field-0.0) c.path-path.ensures.value c.in_err-place.ensures)

pub returns-then-not-is_conflict : goal.returns-then-not-is_conflict
returns-then-not-is_conflict c =
    let self = c.args.self.now in
    let ends : IsPathEnd self.places.origins self.places.statuses self.events.items c.args.event.now.node c.find-stop.result = search rules in
    let none : IsConflict self.network c.in-Split.triple → ⊥ = search rules in (
      open_stop c.requires.tree c.args.event.now.node c.find-stop.result _ c.in_ok-place.ensures.0 ends,
      c.in_ok-place.ensures.1,
      subst (λ o. SplitsNone self.network (outcome_of o)) (sym c.in-Split.is) none,
    )

pub returns-then-decides : goal.returns-then-decides
returns-then-decides c =
    let self = c.args.self.now in
    let path = c.args.event.now.node in
    let ends : IsPathEnd self.places.origins self.places.statuses self.events.items path c.find-stop.result = search rules in
    let conflict : IsConflict self.network c.in-Split.triple = search rules in
    let again : Any (λ decision. decision.triple ≡ c.in-Split.triple) path = search rules in (
      open_stop c.requires.tree path c.find-stop.result _ c.in_ok-place.ensures.0 ends,
      c.in_ok-place.ensures.1,
      subst (λ o. SplitsAgain self.network path (outcome_of o)) (sym c.in-Split.is) (conflict, again),
    )

pub returns-else-decides : goal.returns-else-decides
returns-else-decides c =
    let self = c.args.self.now in
    let history = history_of self.places.origins self.events.items in
    let path = c.args.event.now.node in
    let ends : IsPathEnd self.places.origins self.places.statuses self.events.items path c.find-stop.result = search rules in
    let at : IsOpenPlace self.places.statuses c.in_ok-place.place × (path_at (paths_of self.places.origins) c.in_ok-place.place ≡ path) =
    subst (IsPathEnd self.places.origins self.places.statuses self.events.items path) c.in_ok-place.ensures.0 ends in
    let conflict : IsConflict self.network c.in-Split.triple = search rules in
    let none : Any (λ decision. decision.triple ≡ c.in-Split.triple) path → ⊥ = search rules in
    let splits : SplitsUndecided self.network path (outcome_of c.args.event.now.look) =
    subst (λ o. SplitsUndecided self.network path (outcome_of o)) (sym c.in-Split.is) (conflict, undecided path c.in-Split.triple none) in (
      at.0,
      at.1,
      c.in_ok-place.ensures.1,
      record {
        is_open = open_stop c.requires.tree path c.find-stop.result _ c.in_ok-place.ensures.0 ends;
        is_right = right_from self.network history path (outcome_of c.args.event.now.look) c.requires.proof splits
            (subst (λ met. IsMet self.network history met (outcome_of c.args.event.now.look)) c.path-path.ensures.value c.in_ok-place.ensures.2);
      },
    )

pub returns-in_default : goal.returns-in_default
returns-in_default c =
    let self = c.args.self.now in
    let history = history_of self.places.origins self.events.items in
    let path = c.args.event.now.node in
    let ends : IsPathEnd self.places.origins self.places.statuses self.events.items path c.find-stop.result = search rules in
    let at : IsOpenPlace self.places.statuses c.in_ok-place.place × (path_at (paths_of self.places.origins) c.in_ok-place.place ≡ path) =
    subst (IsPathEnd self.places.origins self.places.statuses self.events.items path) c.in_ok-place.ensures.0 ends in
    let splits : SplitsUndecided self.network path (outcome_of c.args.event.now.look) =
    splits_nothing self.network path c.args.event.now.look c.in_default.not-Split in (
      at.0,
      at.1,
      c.in_ok-place.ensures.1,
      record {
        is_open = open_stop c.requires.tree path c.find-stop.result _ c.in_ok-place.ensures.0 ends;
        is_right = right_from self.network history path (outcome_of c.args.event.now.look) c.requires.proof splits
            (subst (λ met. IsMet self.network history met (outcome_of c.args.event.now.look)) c.path-path.ensures.value c.in_ok-place.ensures.2);
      },
    )

pub admit-requires-clause-kept : goal.admit-requires-clause-kept
admit-requires-clause-kept c = grind (arith, common_steps) steps 2000000

pub admit-requires-clause-stop : goal.admit-requires-clause-stop
admit-requires-clause-stop c = grind (arith, common_steps) steps 2000000
