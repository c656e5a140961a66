-- What goes on where something was settled.
use Rattle.std.proofs.Common.{◌≡◌, ℕ, List, [], ◌∷◌, ◌++◌, length, refl, sym, ap, ◌∙◌, arith}
use Rattle.std.specs.Prelude.{All}
use Rattle.std.proofs.lemmas.List.{append-nil, length-append, append_assoc}
use Rattle.std.proofs.lemmas.List.Elements.{All-nil, All-cons, All-append}
use Rattle.tsn_model.specs.Search.{Event, Settlement}
use Rattle.tsn_book.specs.Book.{Progress}
use Rattle.tsn_book.specs.Below.{settlements_by}
use Rattle.tsn_walk.specs.Search.{IsFurther}

-- by that teller
abbrev IsBy : ℕ → Settlement → Type 0
IsBy teller settlement = settlement.teller ≡ teller

appended : (teller : ℕ) (old new : Progress) (later : List Settlement) → All (IsBy teller) later → new.network ≡ old.network
    → new.tellers ≡ old.tellers → new.limit ≡ old.limit → new.history ≡ old.history ++ later → IsFurther teller old new
appended teller old new later by network tellers limit is = record {
  same_network = network;
  same_tellers = tellers;
  same_limit = limit;
  later = later;
  by_teller = by;
  follows = is;
  more = omega (arith, ap length is, length-append old.history later);
}

pub stays : (teller : ℕ) (book : Progress) → IsFurther teller book book
stays teller book = appended teller book book [] (All-nil (IsBy teller)) refl refl refl (sym (append-nil book.history))

pub goes_on : (teller : ℕ) (old middle new : Progress) → IsFurther teller old middle → IsFurther teller middle new → IsFurther teller old new
goes_on teller old middle new first second =
    appended teller old new (first.later ++ second.later)
    (All-append (IsBy teller) first.later second.later first.by_teller second.by_teller)
    (second.same_network ∙ first.same_network) (second.same_tellers ∙ first.same_tellers) (second.same_limit ∙ first.same_limit)
    (second.follows ∙ ap (λ history. history ++ second.later) first.follows ∙ append_assoc old.history first.later second.later)

-- several more, and one
all_by : (teller : ℕ) (events : List Event) → All (IsBy teller) (settlements_by teller events)
all_by teller [] = All-nil (IsBy teller)
all_by teller (event ∷ events) =
    All-cons (IsBy teller) (record { teller = teller; event = event }) (settlements_by teller events) refl (all_by teller events)

pub settled : (teller : ℕ) (old new : Progress) (events : List Event)
    → new ≡ record old { history = old.history ++ settlements_by teller events } → IsFurther teller old new
settled teller old new events is =
    appended teller old new (settlements_by teller events) (all_by teller events) (ap (λ (b : Progress). b.network) is)
    (ap (λ (b : Progress). b.tellers) is) (ap (λ (b : Progress). b.limit) is) (ap (λ (b : Progress). b.history) is)

pub settled_one : (teller : ℕ) (old new : Progress) (event : Event)
    → new ≡ record old { history = old.history ++ record { teller = teller; event = event } ∷ [] } → IsFurther teller old new
settled_one teller old new event is = settled teller old new (event ∷ []) is
