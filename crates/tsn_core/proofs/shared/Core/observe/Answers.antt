use Rattle.std.proofs.Common.{◌<◌, length, refl, sym, ◌∙◌, subst, arith}
use Rattle.std.specs.Prelude.{slice_set}
use Rattle.std.proofs.lemmas.List.{length-set}
use Rattle.tsn_model.specs.Core.{State, observe}
use Rattle.tsn_model.specs.Replies.{found}
use Rattle.tsn_core.specs.declared.shared.Reply.TheVariants.{Found}
use Rattle.tsn_core.specs.Shared.{Shared, IsReply}
use Rattle.tsn_core.proofs.Sharing.{state_of, step_shared, observed}
use Rattle.tsn_core.proofs.shared.Core.observe.Goals as goal

pub invariant_of-self : goal.invariant_of-self
invariant_of-self c =
    let inside = c.self.inside in
    let k = c.args.teller in
    let below : k < length inside.tellers.items = omega (arith, c.len.ensures) in
    step_shared inside.book inside.book inside.book.limit inside.word inside.word inside.tellers.items (slice_set inside.tellers.items k c.observes.result) (observe k) c.self.invariant below
    (observed inside.word k inside.tellers.items inside.book.history c.index.result.now c.observes.result below c.index.ensures c.observes.ensures)
    refl (c.self.invariant.counted ∙ sym (length-set inside.tellers.items k c.observes.result))

pub returns-clause-reply : goal.returns-clause-reply
returns-clause-reply c =
    let inside = c.self.inside in
    let k = c.args.teller in
    let below : k < length inside.tellers.items = omega (arith, c.len.ensures) in
    let after : State = state_of inside.word (slice_set inside.tellers.items k c.observes.result) inside.book.history in
    subst (λ (s : Shared). IsReply s.network s.limit s.state (observe k) (Found inside.word) after) c.self.view_is (
      found inside.word,
      refl,
      (below, refl, observed inside.word k inside.tellers.items inside.book.history c.index.result.now c.observes.result below c.index.ensures c.observes.ensures),
    )

pub returns-clause-sound : goal.returns-clause-sound
returns-clause-sound c = (invariant_of-self c).sound
