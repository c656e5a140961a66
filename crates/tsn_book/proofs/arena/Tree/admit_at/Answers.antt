use Rattle.std.proofs.Common.{subst, arith}
use Rattle.std.proofs.lemmas.Result.{err_from_is_err_and}
use Rattle.std.proofs.lemmas.Grind.{common_steps}
use Rattle.tsn_conflict.specs.Outcome.{outcome_of}
use Rattle.tsn_book.specs.Arena.{path_at, paths_of, history_of}
use Rattle.tsn_book.specs.Book.{IsFault, IsMet}
use Rattle.tsn_book.proofs.Asking.{open_stop, right_from}
use Rattle.tsn_book.proofs.arena.Tree.admit_at.Goals as goal

pub returns-in_err-admit : goal.returns-in_err-admit
returns-in_err-admit c =
    let self = c.args.self.now in
    let history = history_of self.places.origins self.events.items in
    let p = err_from_is_err_and c.from_residual.result c.from_residual.ensures.1 in
    rw (p.1, p.2) (subst (λ path. IsFault self.network c.args.bounds.limit history (record { path = path; outcome = outcome_of c.args.look.now })
    c.in_err-admit.field-0.0) c.requires.path c.in_err-admit.ensures)

pub returns : goal.returns
returns c =
    let self = c.args.self.now in
    let history = history_of self.places.origins self.events.items in
    let path = path_at (paths_of self.places.origins) c.args.place in
    let admitted = c.in_ok-admit.ensures in (
      admitted.1,
      record {
        is_open = open_stop c.requires.tree path c.stop_at.result _ admitted.0 c.stop_at.ensures;
        is_right = right_from self.network history path (outcome_of c.args.look.now) c.requires.proof c.requires.undecided
            (subst (λ met. IsMet self.network history met (outcome_of c.args.look.now)) c.requires.path admitted.2);
      },
    )

pub admit-requires-clause-kept : goal.admit-requires-clause-kept
admit-requires-clause-kept c = grind (arith, common_steps) steps 2000000
