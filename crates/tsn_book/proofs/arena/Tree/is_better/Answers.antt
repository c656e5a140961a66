use Rattle.std.proofs.Common.{◌≡◌, sym, ap, ◌∙◌, Some, None}
use Rattle.tsn_model.specs.Schedule.{comes_before}
use Rattle.tsn_model.specs.Search.{kept_of}
use Rattle.tsn_book.specs.Arena.{history_of}
use Rattle.tsn_book.specs.Book.{before_kept}
use Rattle.tsn_book.proofs.Bookkeeping.{even_better}
use Rattle.tsn_book.proofs.arena.Tree.is_better.Goals as goal

pub returns-in_default-kept : goal.returns-in_default-kept
unfolding before_kept
returns-in_default-kept c =
    let tree = c.args.self.now in
    let first = kept_of tree.network (history_of tree.places.origins tree.events.items) in
    let solved = c.in-Solved.solved in
    let none : first ≡ None = c.in_default-kept.ensures in
    rw c.in-Solved.is (sym (even_better first solved.offsets solved.flowspan c.args.bounds.best (sym c.flowspan.ensures ∙ c.if-flowspan-bounds.false)
    ∙ ap (λ f. before_kept f solved.offsets) none))

pub returns : goal.returns
unfolding before_kept
returns c =
    let tree = c.args.self.now in
    let first = kept_of tree.network (history_of tree.places.origins tree.events.items) in
    let solved = c.in-Solved.solved in
    let some : first ≡ Some c.in-Some.best_solved.now.offsets = c.in-Some.ensures.0 in
    let mine : c.offsets.result.now ≡ solved.offsets = c.offsets.ensures ∙ c.valid.ensures in
    let best : c.offsets-2.result.now ≡ c.in-Some.best_solved.now.offsets = c.offsets-2.ensures ∙ c.valid-2.ensures in
    rw c.in-Solved.is
    (c.comes_before.ensures ∙ (λ i. comes_before (mine i) (best i))
    ∙ sym (even_better first solved.offsets solved.flowspan c.args.bounds.best (sym c.flowspan.ensures ∙ c.if-flowspan-bounds.false)
    ∙ ap (λ f. before_kept f solved.offsets) some))
