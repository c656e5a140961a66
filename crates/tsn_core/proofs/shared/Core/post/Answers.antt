use Rattle.std.proofs.Common.{◌<◌, length, Contains, refl, sym, ◌∙◌, subst, arith}
use Rattle.std.specs.Prelude.{slice_set}
use Rattle.std.proofs.lemmas.List.{length-set}
use Rattle.tsn_model.specs.Search.{solved_bounds, settled_by}
use Rattle.tsn_model.specs.Core.{State, post}
use Rattle.tsn_model.specs.Replies.{found}
use Rattle.tsn_core.specs.declared.shared.Reply.TheVariants.{Found}
use Rattle.tsn_core.specs.Shared.{Shared, IsReply}
use Rattle.tsn_core.proofs.Sharing.{state_of, step_shared, posted_after}
use Rattle.tsn_core.proofs.shared.Core.post.Goals as goal

pub invariant_of-self : goal.invariant_of-self
invariant_of-self c =
    let inside = c.self.inside in
    let k = c.args.teller in
    let flowspan = c.args.flowspan in
    let may : (k < length inside.tellers.items) × Contains (solved_bounds (settled_by k inside.book.history)) flowspan =
    subst (λ (s : Shared). (k < length s.state.tellers) × Contains (solved_bounds (settled_by k s.state.history)) flowspan) (sym c.self.view_is) (c.if-not-may_post.ensures.0 refl) in
    step_shared inside.book inside.book inside.book.limit inside.word c.min-self-inside.result inside.tellers.items (slice_set inside.tellers.items k c.posts.result) (post k flowspan) c.self.invariant may
    (posted_after inside.word k flowspan inside.tellers.items inside.book.history c.index.result.now c.posts.result c.min-self-inside.result may.0 c.index.ensures c.posts.ensures (omega (arith, c.min-self-inside.ensures)))
    refl (c.self.invariant.counted ∙ sym (length-set inside.tellers.items k c.posts.result))

pub returns-clause-reply : goal.returns-clause-reply
returns-clause-reply c =
    let inside = c.self.inside in
    let k = c.args.teller in
    let flowspan = c.args.flowspan in
    let may : (k < length inside.tellers.items) × Contains (solved_bounds (settled_by k inside.book.history)) flowspan =
    subst (λ (s : Shared). (k < length s.state.tellers) × Contains (solved_bounds (settled_by k s.state.history)) flowspan) (sym c.self.view_is) (c.if-not-may_post.ensures.0 refl) in
    let after : State = state_of c.min-self-inside.result (slice_set inside.tellers.items k c.posts.result) inside.book.history in
    subst (λ (s : Shared). IsReply s.network s.limit s.state (post k flowspan) (Found inside.word) after) c.self.view_is (
      found inside.word,
      refl,
      (
        may,
        refl,
        posted_after inside.word k flowspan inside.tellers.items inside.book.history c.index.result.now c.posts.result c.min-self-inside.result may.0 c.index.ensures c.posts.ensures (omega (arith, c.min-self-inside.ensures)),
      ),
    )

pub returns-clause-sound : goal.returns-clause-sound
returns-clause-sound c = (invariant_of-self c).sound
