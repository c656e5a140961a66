use Rattle.std.proofs.Common.{◌≡◌, ◌<◌, length, sym, subst, arith}
use Rattle.std.specs.Prelude.{IsTrue}
use Rattle.tsn_model.specs.Core.{teller_at, IsAboveSeen}
use Rattle.tsn_conflict.specs.Outcome.{outcome_of}
use Rattle.tsn_core.specs.Shared.{Shared}
use Rattle.tsn_core.proofs.Sharing.{state_of, seen_at}
use Rattle.tsn_core.proofs.shared.Core.may_settle.Goals as goal

pub returns-then-teller-len : goal.returns-then-teller-len
returns-then-teller-len c =
    let inside = c.self.inside in
    let k = c.args.teller in
    let outcome = outcome_of c.args.look.now in
    let below : k < length inside.tellers.items = omega (arith, c.len.ensures) in
    let at : c.seen.result ≡ (teller_at (state_of inside.word inside.tellers.items inside.book.history) k).seen =
    seen_at inside.word k c.seen.result inside.tellers.items inside.book.history c.index.result.now below c.index.ensures c.seen.ensures in
    subst
    (λ (s : Shared). (IsTrue c.is_above_seen.result → (k < length s.state.tellers) × IsAboveSeen s.network (teller_at s.state k).seen outcome)
    × ((k < length s.state.tellers) × IsAboveSeen s.network (teller_at s.state k).seen outcome → IsTrue c.is_above_seen.result))
    c.self.view_is (
      λ is. (below, subst (λ n. IsAboveSeen inside.book.network n outcome) at (subst (λ network. IsAboveSeen network c.seen.result outcome) c.timing.ensures (c.is_above_seen.ensures.0 is))),
      λ both. c.is_above_seen.ensures.1 (subst (λ network. IsAboveSeen network c.seen.result outcome) (sym c.timing.ensures) (subst (λ n. IsAboveSeen inside.book.network n outcome) (sym at) both.1)),
    )
