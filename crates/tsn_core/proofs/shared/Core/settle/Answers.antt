use Rattle.std.proofs.Common.{◌<◌, length, refl, sym, subst}
use Rattle.std.specs.Prelude.{Result, IfOk}
use Rattle.std.proofs.lemmas.Result.{MatchResult-weaker}
use Rattle.tsn_model.specs.declared.NoMemory.{NoMemory}
use Rattle.tsn_model.specs.Core.{State, settle, teller_at, IsAboveSeen}
use Rattle.tsn_model.specs.Replies.{recorded}
use Rattle.tsn_conflict.specs.Outcome.{outcome_of}
use Rattle.tsn_core.specs.declared.shared.Reply.{Reply}
use Rattle.tsn_core.specs.declared.shared.Reply.TheVariants.{Settled, Refused}
use Rattle.tsn_book.specs.Event.{event_of}
use Rattle.tsn_book.specs.Book.{Progress}
use Rattle.tsn_core.specs.Shared.{Shared, IsShared, IsReply}
use Rattle.tsn_core.proofs.Sharing.{state_of, settle_taken, refused_reply}
use Rattle.tsn_core.proofs.shared.Core.settle.Goals as goal
use Rattle.tsn_core.proofs.shared.Core.settle.Goals.{in-Ok, in-Err}

pub invariant_of-self : goal.invariant_of-self
invariant_of-self c =
    let inside = c.self.inside in
    let k = c.args.teller in
    let before : State = state_of inside.word inside.tellers.items inside.book.history in
    let may : (k < length before.tellers) × IsAboveSeen inside.book.network (teller_at before k).seen (outcome_of c.args.event.look) =
    subst (λ (s : Shared). (k < length s.state.tellers) × IsAboveSeen s.network (teller_at s.state k).seen (outcome_of c.args.event.look)) (sym c.self.view_is) (c.if-not-may_settle.ensures.0 refl) in
    elim c.match-settle.branch [
      | in-Ok w ↦ (settle_taken inside.book c.settle.new.self inside.word k inside.tellers.items (event_of c.args.event) c.self.invariant may.0 may.1 w.in-Ok.ensures.ok w.in-Ok.ensures.lawful).0
      | in-Err w ↦ subst (λ (p : Progress). IsShared p inside.word inside.tellers.items) (sym w.in-Err.ensures.refused) c.self.invariant
    ]

pub returns-clause-reply : goal.returns-clause-reply
returns-clause-reply c =
    let inside = c.self.inside in
    let k = c.args.teller in
    let event = event_of c.args.event in
    let before : State = state_of inside.word inside.tellers.items inside.book.history in
    let after : State = state_of inside.word inside.tellers.items c.settle.new.self.history in
    let may : (k < length before.tellers) × IsAboveSeen inside.book.network (teller_at before k).seen event.outcome =
    subst (λ (s : Shared). (k < length s.state.tellers) × IsAboveSeen s.network (teller_at s.state k).seen event.outcome) (sym c.self.view_is) (c.if-not-may_settle.ensures.0 refl) in
    let P : Result Reply NoMemory → Type 0 = λ r. IfOk r (λ reply. IsReply c.args.self.now.network c.args.self.now.limit c.args.self.now.state (settle k event) reply after) in
    elim c.match-settle.branch [
      | in-Ok w ↦
          let taken = settle_taken inside.book c.settle.new.self inside.word k inside.tellers.items event c.self.invariant may.0 may.1 w.in-Ok.ensures.ok w.in-Ok.ensures.lawful in
          subst P (sym w.result-is) (subst (λ (s : Shared). IsReply s.network s.limit s.state (settle k event) Settled after) c.self.view_is (recorded, refl, taken.1))
      | in-Err w ↦
          subst P (sym w.result-is)
          (MatchResult-weaker w.refused.result w.refused.ensures (λ reply is.
          subst (λ r. IsReply c.args.self.now.network c.args.self.now.limit c.args.self.now.state (settle k event) r after) (sym is.0)
          (subst (λ (s : Shared). IsReply s.network s.limit s.state (settle k event) (Refused w.in-Err.refusal.fault) after) c.self.view_is
          (subst (λ (p : Progress). IsReply inside.book.network inside.book.limit before (settle k event) (Refused w.in-Err.refusal.fault) (state_of inside.word inside.tellers.items p.history)) (sym w.in-Err.ensures.refused)
          (refused_reply inside.book.network inside.book.limit before k event w.in-Err.refusal.fault may.0 may.1 w.in-Err.ensures.fault is.1)))) (λ none wants. tt))
    ]

pub returns-clause-sound : goal.returns-clause-sound
returns-clause-sound c = (invariant_of-self c).sound
