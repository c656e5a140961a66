use Rattle.std.proofs.Common.{◌<◌, List, length, sym, ◌∙◌, subst, arith}
use Rattle.std.specs.Prelude.{MatchResult}
use Rattle.std.proofs.lemmas.Grind.{common_steps}
use Rattle.tsn_model.specs.declared.Decision.{Decision}
use Rattle.tsn_model.specs.Search.{IsAllowed}
use Rattle.tsn_conflict.specs.Outcome.{outcome_of}
use Rattle.tsn_conflict.specs.declared.outcome.Look.{Look}
use Rattle.tsn_conflict.specs.Right.{HasProof, SplitsUndecided}
use Rattle.tsn_book.specs.Arena.{settled_in}
use Rattle.tsn_book.specs.Book.{IsFault}
use Rattle.tsn_book.specs.Ledger.{next_outcome}
use Rattle.tsn_book.proofs.Ledgers.{same_path, within_places}
use Rattle.tsn_book.proofs.ledger.Ledger.admit.Goals as goal

pub admit_at-requires-clause-place : goal.admit_at-requires-clause-place
admit_at-requires-clause-place c = within_places c.args.self.now c.requires.agrees c.args.place c.requires.at.within

pub admit_at-requires-clause-path : goal.admit_at-requires-clause-path
admit_at-requires-clause-path c = sym c.requires.at.is ∙ sym (same_path c.args.self.now c.requires.agrees c.args.place)

pub admit_at-requires-clause-proof : goal.admit_at-requires-clause-proof
admit_at-requires-clause-proof c =
    let ledger = c.args.self.now in
    rw c.next-look.ensures (subst (λ (path : List Decision). HasProof ledger.tree.network path (next_outcome ledger))
    (sym c.requires.at.is ∙ sym (same_path ledger c.requires.agrees c.args.place)) c.requires.proof)

pub admit_at-requires-clause-undecided : goal.admit_at-requires-clause-undecided
admit_at-requires-clause-undecided c =
    let ledger = c.args.self.now in
    rw c.next-look.ensures (subst (λ (path : List Decision). SplitsUndecided ledger.tree.network path (next_outcome ledger))
    (sym c.requires.at.is ∙ sym (same_path ledger c.requires.agrees c.args.place)) c.requires.undecided)

pub returns : goal.returns
returns c =
    let ledger = c.args.self.now in
    let history = settled_in ledger.tree in
    let same = same_path ledger c.requires.agrees c.args.place ∙ c.requires.at.is in
    subst (λ (look : Look). MatchResult c.admit_at.result
    (λ done. (length history < ledger.bounds.limit) × IsAllowed ledger.tree.network history (record { path = c.args.path.now; outcome = outcome_of look }))
    (λ fault. IsFault ledger.tree.network ledger.bounds.limit history (record { path = c.args.path.now; outcome = outcome_of look }) fault)) c.next-look.ensures
    (subst (λ (path : List Decision). MatchResult c.admit_at.result
    (λ done. (length history < ledger.bounds.limit)
    × IsAllowed ledger.tree.network history (record { path = path; outcome = outcome_of c.next-look.result.now }))
    (λ fault. IsFault ledger.tree.network ledger.bounds.limit history (record { path = path; outcome = outcome_of c.next-look.result.now }) fault))
    same c.admit_at.ensures)

pub admit_at-requires-clause-tree : goal.admit_at-requires-clause-tree
admit_at-requires-clause-tree c = grind (arith, common_steps) steps 2000000

pub admit_at-requires-clause-kept : goal.admit_at-requires-clause-kept
admit_at-requires-clause-kept c = grind (arith, common_steps) steps 2000000
