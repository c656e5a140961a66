-- Several events of one teller in the book.
use Rattle.std.proofs.Common.{◌≡◌, ◌≢◌, ℕ, ◌<◌, true, List, [], ◌∷◌, ◌++◌, length, map, take, set, refl, sym, ap, ◌∙◌, subst, false, Result, Ok, Err}
use Rattle.std.specs.Prelude.{OnOk, IfErr}
use Rattle.std.proofs.lemmas.List.{append_assoc, append-nil, take-map}
use Rattle.tsn_model.specs.Network.{Network}
use Rattle.tsn_model.specs.declared.Decision.{Decision}
use Rattle.tsn_model.specs.Search.{Outcome, Event, Settlement, tally_of}
use Rattle.tsn_model.proofs.Gathering.{tally-this, tally-another}
use Rattle.tsn_conflict.specs.Outcome.{outcome_of}
use Rattle.tsn_model.specs.declared.Tally.{Tally}
use Rattle.tsn_incumbent.specs.Halves.{Half, half}
use Rattle.tsn_book.specs.Book.{Progress}
use Rattle.tsn_book.specs.Event.{event_of}
use Rattle.tsn_book.specs.Below.{next_path, events_below, settlements_by}
use Rattle.tsn_book.specs.declared.event.Event as book
use Rattle.tsn_incumbent.specs.Names.{Names}
use Rattle.tsn_incumbent.specs.Desk.{Halved}
use Rattle.tsn_incumbent.specs.Teller.{tally_with_all}
use Rattle.tsn_incumbent.proofs.Desks.{halves_set}

-- ---- tallies

abbrev pub outcomes_of : List Event → List Outcome
outcomes_of events = map (λ event. event.outcome) events

-- a teller's tally takes its own events
tally-own : (network : Network) (k : ℕ) (history : List Settlement) (events : List Event) → tally_of network k (history ++ settlements_by k events) ≡ tally_with_all (tally_of network k history) (outcomes_of events)
tally-own network k history [] = ap (tally_of network k) (append-nil history)
tally-own network k history (event ∷ events) =
    let settlement : Settlement = record { teller = k; event = event } in
    ap (tally_of network k) (sym (append_assoc history (settlement ∷ []) (settlements_by k events)))
    ∙ tally-own network k (history ++ settlement ∷ []) events
    ∙ ap (λ (tally : Tally). tally_with_all tally (outcomes_of events)) (tally-this network k history settlement refl)

-- and none of another's
tally-others : (network : Network) (k other : ℕ) → k ≢ other → (history : List Settlement) (events : List Event) → tally_of network other (history ++ settlements_by k events) ≡ tally_of network other history
tally-others network k other apart history [] = ap (tally_of network other) (append-nil history)
tally-others network k other apart history (event ∷ events) =
    let settlement : Settlement = record { teller = k; event = event } in
    ap (tally_of network other) (sym (append_assoc history (settlement ∷ []) (settlements_by k events)))
    ∙ tally-others network k other apart (history ++ settlement ∷ []) events
    ∙ tally-another network other history settlement apart

-- the halves behind the lock, once the teller's own is set
halves_batch : (names : Names) (halves : List Half) (history : List Settlement) (teller : ℕ) (events : List Event) (new : Half) → Halved names halves history → teller < length halves
    → new ≡ half names.halves teller true (tally_of names.race.network teller (history ++ settlements_by teller events)) → Halved names (set halves teller new) (history ++ settlements_by teller events)
halves_batch names halves history teller events new before within is =
    halves_set names halves history (history ++ settlements_by teller events) teller new before within is
    (λ k other. tally-others names.race.network teller k (λ same. other (sym same)) history events)

-- ---- outcomes

pub outcomes_given : (events : List book.Event) → outcomes_of (map event_of events) ≡ map (λ event. outcome_of event.look) events
outcomes_given [] = refl
outcomes_given (event ∷ events) = ap (λ outcomes. outcome_of event.look ∷ outcomes) (outcomes_given events)

pub outcomes_below : (path : List Decision) (outcomes : List Outcome) → outcomes_of (events_below path outcomes) ≡ outcomes
unfolding events_below
outcomes_below path [] = refl
outcomes_below path (outcome ∷ outcomes) = ap (λ others. outcome ∷ others) (outcomes_below (next_path path outcome) outcomes)

-- ---- all of them, or as many as a refusal counts

abbrev pub taken : {U E : Type 0} → Result U E → (E → ℕ) → List Event → List Event
taken (Ok u) count events = events
taken (Err e) count events = take (count e) events

pub history_taken : {U E : Type 0} (answer : Result U E) (count : E → ℕ) (some_of : E → List Event) (A C : E → Type 0) (before after : Progress) (k : ℕ) (events : List Event) → ((e : E) → some_of e ≡ take (count e) events)
    → OnOk answer (after ≡ record before { history = before.history ++ settlements_by k events })
    → IfErr answer (λ e. A e × (after ≡ record before { history = before.history ++ settlements_by k (some_of e) }) × C e)
    → after.history ≡ before.history ++ settlements_by k (taken answer count events)
history_taken (Ok u) count some_of A C before after k events same all some = ap (λ (p : Progress). p.history) all
history_taken (Err e) count some_of A C before after k events same all some = ap (λ (p : Progress). p.history) some.1 ∙ ap (λ more. before.history ++ settlements_by k more) (same e)

share_all : {U E : Type 0} (answer : Result U E) (count : E → ℕ) (new : Half) (holding : Tally → Half) (tally : Tally) (events : List Event) (outcomes : List Outcome) → outcomes_of events ≡ outcomes
    → new ≡ holding (tally_with_all tally (outcomes_of (taken answer count events))) → OnOk answer (new ≡ holding (tally_with_all tally outcomes))
share_all (Ok u) count new holding tally events outcomes same is = is ∙ ap (λ given. holding (tally_with_all tally given)) same
share_all (Err e) count new holding tally events outcomes same is = tt

share_some : {U E : Type 0} (answer : Result U E) (count : E → ℕ) (A B C : E → Type 0) (new : Half) (holding : Tally → Half) (tally : Tally) (events : List Event) (outcomes : List Outcome) → outcomes_of events ≡ outcomes
    → new ≡ holding (tally_with_all tally (outcomes_of (taken answer count events)))
    → IfErr answer (λ e. A e × B e × C e) → IfErr answer (λ e. A e × (new ≡ holding (tally_with_all tally (take (count e) outcomes))) × C e)
share_some (Ok u) count A B C new holding tally events outcomes same is some = tt
share_some (Err e) count A B C new holding tally events outcomes same is some =
    let fewer = sym (take-map (λ (event : Event). event.outcome) (count e) events) ∙ ap (take (count e)) same in
    (some.0, is ∙ ap (λ given. holding (tally_with_all tally given)) fewer, some.2)

-- what that does to both halves of the teller's tally
module _ {U E : Type 0} (answer : Result U E) (count : E → ℕ) (names : Names) (before after : Progress) (k : ℕ) (events : List Event)
    (more : after.history ≡ before.history ++ settlements_by k (taken answer count events)) where
  pub halves_taken : (halves : List Half) (new : Half) → Halved names halves before.history → k < length halves
      → new ≡ half names.halves k true (tally_of names.race.network k after.history) → Halved names (set halves k new) after.history
  halves_taken halves new halved within is =
      subst (Halved names (set halves k new)) (sym more)
      (halves_batch names halves before.history k (taken answer count events) new halved within
      (is ∙ ap (λ history. half names.halves k true (tally_of names.race.network k history)) more))

  module _ (share new : Half) (outcomes : List Outcome) (same : outcomes_of events ≡ outcomes) (mine : share.tally ≡ tally_of names.race.network k before.history)
      (is : new ≡ half names.halves k false (tally_of names.race.network k after.history)) where
    takes : new ≡ half names.halves k false (tally_with_all share.tally (outcomes_of (taken answer count events)))
    takes =
        let given = outcomes_of (taken answer count events) in
        let tally = ap (tally_of names.race.network k) more ∙ tally-own names.race.network k before.history (taken answer count events) in
        is ∙ ap (half names.halves k false) (tally ∙ ap (λ (t : Tally). tally_with_all t given) (sym mine))

    pub takes_all : OnOk answer (new ≡ half names.halves k false (tally_with_all share.tally outcomes))
    takes_all = share_all answer count new (half names.halves k false) share.tally events outcomes same takes

    pub takes_some : (A B C : E → Type 0) → IfErr answer (λ e. A e × B e × C e)
        → IfErr answer (λ e. A e × (new ≡ half names.halves k false (tally_with_all share.tally (take (count e) outcomes))) × C e)
    takes_some A B C some = share_some answer count A B C new (half names.halves k false) share.tally events outcomes same takes some
