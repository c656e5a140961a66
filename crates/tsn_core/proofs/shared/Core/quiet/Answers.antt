use Rattle.std.proofs.Common.{◌≡◌, length, sym, subst, arith}
use Rattle.std.specs.Prelude.{IsTrue}
use Rattle.tsn_model.specs.Search.{open_paths}
use Rattle.tsn_model.specs.Core.{IsSound, IsQuiet}
use Rattle.tsn_model.proofs.Finished.{quiet_word}
use Rattle.tsn_core.specs.Shared.{Shared, HasPostedAll}
use Rattle.tsn_core.proofs.Sharing.{state_of, quiet_where, quiet_tree}
use Rattle.tsn_core.proofs.shared.Core.quiet.Goals as goal

pub returns-then-open_count-eq0-clause-quiet : goal.returns-then-open_count-eq0-clause-quiet
returns-then-open_count-eq0-clause-quiet c =
    let inside = c.self.inside in
    let none : length (open_paths inside.book.history) ≡ 0 = omega (arith, c.open_count.ensures.count, c.if-open_count-eq0.true) in
    let where' = quiet_where inside.book.network (state_of inside.word inside.tellers.items inside.book.history) c.self.invariant.sound none in
    subst (λ (s : Shared). (IsTrue c.has_posted_all.result → IsQuiet s.state) × (IsQuiet s.state → IsTrue c.has_posted_all.result)) c.self.view_is (
      λ is. where'.0 (subst (HasPostedAll inside.book.network inside.book.history) c.deref.ensures.value (c.has_posted_all.ensures.0 is)),
      λ quiet. c.has_posted_all.ensures.1 (subst (HasPostedAll inside.book.network inside.book.history) (sym c.deref.ensures.value) (where'.1 quiet)),
    )

pub returns-then-open_count-eq0-clause-tree : goal.returns-then-open_count-eq0-clause-tree
returns-then-open_count-eq0-clause-tree c = λ is.
    let inside = c.self.inside in
    let sound = subst (λ (s : Shared). IsSound s.network s.state) c.self.view_is c.self.invariant.sound in
    quiet_tree c.args.self.now.network c.args.self.now.state sound ((returns-then-open_count-eq0-clause-quiet c).0 is)

pub returns-then-open_count-eq0-clause-word : goal.returns-then-open_count-eq0-clause-word
returns-then-open_count-eq0-clause-word c = λ is.
    let inside = c.self.inside in
    let sound = subst (λ (s : Shared). IsSound s.network s.state) c.self.view_is c.self.invariant.sound in
    quiet_word c.args.self.now.network c.args.self.now.state sound ((returns-then-open_count-eq0-clause-quiet c).0 is)
