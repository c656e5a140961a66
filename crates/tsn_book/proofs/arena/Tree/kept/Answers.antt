use Rattle.std.proofs.Common.{◌≡◌, arith, sym, ◌∙◌, subst}
use Rattle.tsn_conflict.specs.Outcome.{outcome_of}
use Rattle.tsn_book.specs.Arena.{history_of}
use Rattle.tsn_book.specs.Book.{IsKept}
use Rattle.tsn_book.proofs.Bookkeeping.{kept_is_stored, kept_best, tree_keeps, HasSolution}
use Rattle.tsn_book.proofs.arena.Tree.kept.Goals as goal

pub get-requires : goal.get-requires
get-requires c =
    let tree = c.args.self.now in
    let is = subst (IsKept tree.network (history_of tree.places.origins tree.events.items)) c.in_ok-number.was c.requires.kept in
    omega (arith, (kept_is_stored tree.network tree.places.origins tree.events.items c.in_ok-number.number is).0)

pub returns-in-Solved : goal.returns-in-Solved
returns-in-Solved c =
    let tree = c.args.self.now in
    let history = history_of tree.places.origins tree.events.items in
    let is = subst (IsKept tree.network history) c.in_ok-number.was c.requires.kept in
    let keeps = tree_keeps tree.network tree.places.origins tree.events.items c.requires.tree.legal c.in_ok-number.number is c.get.result.now c.get.ensures in
    let same : (keeps.0 ≡ c.in-Solved.solved.offsets) × (keeps.1 ≡ c.in-Solved.solved.flowspan) =
    subst (λ o. HasSolution keeps.0 keeps.1 (outcome_of o)) c.in-Solved.is keeps.2 in
    let best = kept_best c.requires.tree.legal keeps.0 keeps.3 in
    rw (sym same.0, sym same.1) (keeps.3, (best.0, keeps.4), sym keeps.4 ∙ best.1)

pub returns-in-Split : goal.returns-in-Split
returns-in-Split c =
    let tree = c.args.self.now in
    let is = subst (IsKept tree.network (history_of tree.places.origins tree.events.items)) c.in_ok-number.was c.requires.kept in
    let keeps = tree_keeps tree.network tree.places.origins tree.events.items c.requires.tree.legal c.in_ok-number.number is c.get.result.now c.get.ensures in
    absurd (subst (λ o. HasSolution keeps.0 keeps.1 (outcome_of o)) c.in-Split.is keeps.2)

pub returns-in-Pruned : goal.returns-in-Pruned
returns-in-Pruned c =
    let tree = c.args.self.now in
    let is = subst (IsKept tree.network (history_of tree.places.origins tree.events.items)) c.in_ok-number.was c.requires.kept in
    let keeps = tree_keeps tree.network tree.places.origins tree.events.items c.requires.tree.legal c.in_ok-number.number is c.get.result.now c.get.ensures in
    absurd (subst (λ o. HasSolution keeps.0 keeps.1 (outcome_of o)) c.in-Pruned.is keeps.2)

pub returns-in-Tied : goal.returns-in-Tied
returns-in-Tied c =
    let tree = c.args.self.now in
    let is = subst (IsKept tree.network (history_of tree.places.origins tree.events.items)) c.in_ok-number.was c.requires.kept in
    let keeps = tree_keeps tree.network tree.places.origins tree.events.items c.requires.tree.legal c.in_ok-number.number is c.get.result.now c.get.ensures in
    absurd (subst (λ o. HasSolution keeps.0 keeps.1 (outcome_of o)) c.in-Tied.is keeps.2)

pub returns-in-Refuted : goal.returns-in-Refuted
returns-in-Refuted c =
    let tree = c.args.self.now in
    let is = subst (IsKept tree.network (history_of tree.places.origins tree.events.items)) c.in_ok-number.was c.requires.kept in
    let keeps = tree_keeps tree.network tree.places.origins tree.events.items c.requires.tree.legal c.in_ok-number.number is c.get.result.now c.get.ensures in
    absurd (subst (λ o. HasSolution keeps.0 keeps.1 (outcome_of o)) c.in-Refuted.is keeps.2)
