-- The halves behind the lock.
use Rattle.std.proofs.Common.{◌≡◌, ◌≢◌, ℕ, ◌<◌, List, ◌∷◌, [], ◌++◌, length, get_or, set, true, false, sym, ap, ◌∙◌, subst, inl, inr, refl, arith, Result, Ok, Err}
use Rattle.std.specs.Prelude.{◌≤◌, IfOk, IfErr, OnOk, OnErr, Option, Some, None, IsSomeAnd, slice_get}
use Rattle.std.proofs.lemmas.Bool.{cases_eq}
use Rattle.std.proofs.lemmas.List.{length-set, get_or-set_same, get_or-set_other}
use Rattle.tsn_model.specs.Network.{Network}
use Rattle.tsn_model.specs.Search.{Event, Settlement, tally_of, settled_by, solved_bounds, least_or_none}
use Rattle.tsn_timing.specs.Solution.{Solution}
use Rattle.tsn_model.proofs.Numbers.{fold-min-le}
use Rattle.tsn_model.specs.Gathering.{tally_with}
use Rattle.tsn_model.proofs.Gathering.{tally-this, tally-another, best-le-tally}
use Rattle.tsn_incumbent.specs.Flowspans.{no_flowspan}
use Rattle.tsn_model.specs.declared.Tally.{Tally}
use Rattle.tsn_incumbent.specs.Halves.{Half, half}
use Rattle.tsn_book.specs.Book.{Progress, IsLawful, IsFault}
use Rattle.tsn_book.specs.Below.{IsFaultAt}
use Rattle.tsn_book.specs.declared.fault.BookFault.{BookFault}
use Rattle.tsn_book.proofs.Bookkeeping.{tally_few}
use Rattle.tsn_incumbent.specs.Names.{Names, progress_of, IsBookOf}
use Rattle.tsn_incumbent.specs.Teller.{Known}
use Rattle.tsn_incumbent.specs.Desk.{Halved, AreCounts, IsReading, IsKeptOf, IsNoWorse, IsBest, IsRefused, IsRefusedAt}
use Rattle.tsn_incumbent.specs.declared.desk.Counts.{Counts}

-- one half is set to its number's tally in another history, where the others have the tallies that they had
pub halves_set : (names : Names) (halves : List Half) (history after : List Settlement) (teller : ℕ) (new : Half) → Halved names halves history → teller < length halves
    → new ≡ half names.halves teller true (tally_of names.race.network teller after) → ((k : ℕ) → k ≢ teller → tally_of names.race.network k after ≡ tally_of names.race.network k history)
    → Halved names (set halves teller new) after
halves_set names halves history after teller new before within is others = record {
  count = length-set halves teller new ∙ before.count;
  each = λ k d low.
      let below : k < length halves = omega (arith, low, length-set halves teller new) in
      elim (cases_eq k teller) [
        | inl same ↦ subst (λ j. get_or (set halves teller new) j d ≡ half names.halves j true (tally_of names.race.network j after)) (sym same) (get_or-set_same halves teller new d within ∙ is)
        | inr other ↦ get_or-set_other halves teller k new d other ∙ before.each k d below ∙ ap (half names.halves k true) (sym (others k other))
      ];
}

-- the half of the teller that settled an event takes it
pub halves_settled : (names : Names) (halves : List Half) (history : List Settlement) (settlement : Settlement) (new : Half) → Halved names halves history → settlement.teller < length halves
    → new ≡ half names.halves settlement.teller true (tally_of names.race.network settlement.teller (history ++ settlement ∷ [])) → Halved names (set halves settlement.teller new) (history ++ settlement ∷ [])
halves_settled names halves history settlement new before within is =
    halves_set names halves history (history ++ settlement ∷ []) settlement.teller new before within is
    (λ k other. tally-another names.race.network k history settlement (λ same. other (sym same)))

-- a half that is set to what it had
pub halves_agree : (names : Names) (halves : List Half) (history : List Settlement) (teller : ℕ) (new : Half) → Halved names halves history → teller < length halves
    → new ≡ half names.halves teller true (tally_of names.race.network teller history) → Halved names (set halves teller new) history
halves_agree names halves history teller new before within is = halves_set names halves history history teller new before within is (λ k other. refl)

-- what one event does to them, where it may have been refused
pub halves_answer : {X E : Type 0} (answer : Result X E) (names : Names) (halves : List Half) (before after : Progress) (settlement : Settlement) (new : Half)
    → OnOk answer (after ≡ record before { history = before.history ++ settlement ∷ [] }) → OnErr answer (after ≡ before) → Halved names halves before.history → settlement.teller < length halves
    → new ≡ half names.halves settlement.teller true (tally_of names.race.network settlement.teller after.history) → Halved names (set halves settlement.teller new) after.history
halves_answer (Ok x) names halves before after settlement new settled same halved within is =
    let history = ap (λ (p : Progress). p.history) settled in
    subst (Halved names (set halves settlement.teller new)) (sym history)
    (halves_settled names halves before.history settlement new halved within (is ∙ ap (λ h. half names.halves settlement.teller true (tally_of names.race.network settlement.teller h)) history))
halves_answer (Err e) names halves before after settlement new settled same halved within is =
    let history = ap (λ (p : Progress). p.history) same in
    subst (Halved names (set halves settlement.teller new)) (sym history)
    (halves_agree names halves before.history settlement.teller new halved within (is ∙ ap (λ h. half names.halves settlement.teller true (tally_of names.race.network settlement.teller h)) history))

-- and to its teller's share
pub share_settled : {X E : Type 0} (answer : Result X E) (names : Names) (before after : Progress) (settlement : Settlement) (share new : Half) → OnOk answer (after ≡ record before { history = before.history ++ settlement ∷ [] })
    → share.tally ≡ tally_of names.race.network settlement.teller before.history → new ≡ half names.halves settlement.teller false (tally_of names.race.network settlement.teller after.history)
    → OnOk answer (new ≡ half names.halves settlement.teller false (tally_with share.tally settlement.event.outcome))
share_settled (Ok x) names before after settlement share new settled mine is =
    let history = ap (λ (p : Progress). p.history) settled in
    let tally =
    ap (tally_of names.race.network settlement.teller) history
    ∙ tally-this names.race.network settlement.teller before.history settlement refl
    ∙ ap (λ (t : Tally). tally_with t settlement.event.outcome) (sym mine) in
    is ∙ ap (half names.halves settlement.teller false) tally
share_settled (Err e) names before after settlement share new settled mine is = tt

pub share_refused : {X E : Type 0} (answer : Result X E) (names : Names) (before after : Progress) (k : ℕ) (share new : Half) → OnErr answer (after ≡ before)
    → share ≡ half names.halves k false share.tally → share.tally ≡ tally_of names.race.network k before.history → new ≡ half names.halves k false (tally_of names.race.network k after.history)
    → OnErr answer ((after ≡ before) × (new ≡ share))
share_refused (Ok x) names before after k share new same shares mine is = tt
share_refused (Err e) names before after k share new same shares mine is =
    let tally = ap (λ (p : Progress). tally_of names.race.network k p.history) same ∙ sym mine in
    (same, is ∙ ap (half names.halves k false) tally ∙ sym shares)

-- a book of this search is lawful after its history
pub lawful_of : (names : Names) (book : Progress) → IsBookOf names book → IsLawful book → IsLawful (progress_of names book.history)
lawful_of names book of lawful =
    let is : book ≡ progress_of names book.history = (λ i. record { network = of.network i; tellers = of.tellers i; limit = of.limit i; history = book.history }) in
    subst IsLawful is lawful

-- what was read of the book
pub reads : {E : Type 0} (names : Names) (known : Known) (book : Progress) → IsBookOf names book → IsLawful book → tally_of names.race.network known.standing.number book.history ≡ known.tally
    → (answer : Result Counts E) → IfOk answer (AreCounts book.history) → IfOk answer (IsReading names known)
reads names known book of lawful mine (Ok counts) told =
    let count = told.count in
    record {
      history = book.history;
      lawful = lawful_of names book of lawful;
      mine = mine;
      told = told;
      at_least = omega (arith, tally_few names.race.network book.history known.standing.number _ refl, ap (λ (tally : Tally). tally.events) mine, count);
    }
reads names known book of lawful mine (Err e) told = tt

-- a teller's least solved flowspan is no more than one past the cycle, and no less than the least that was solved
tally-least : (network : Network) (k : ℕ) (history : List Settlement) → (tally_of network k history).solved ≤ no_flowspan network
unfolding tally_of least_or_none
tally-least network k history = fold-min-le (no_flowspan network) (solved_bounds (settled_by k history))

-- what was copied of the book
no_worse : (network : Network) (known : Known) (history : List Settlement) → tally_of network known.standing.number history ≡ known.tally
    → (best : Option Solution) → IsKeptOf network history best → IsNoWorse network known best
no_worse network known history mine None kept =
    let share = ap (λ (tally : Tally). tally.solved) mine in
    let low = best-le-tally network history known.standing.number in
    let high = tally-least network known.standing.number history in
    let none = kept.1 in
    omega (arith, share, low, high, none)
no_worse network known history mine (Some solution) kept =
    let share = ap (λ (tally : Tally). tally.solved) mine in
    let low = best-le-tally network history known.standing.number in
    let is = kept.2 in
    (kept.1, omega (arith, share, low, is))

pub copies : {E : Type 0} (names : Names) (known : Known) (book : Progress) → IsBookOf names book → IsLawful book → tally_of names.race.network known.standing.number book.history ≡ known.tally
    → (answer : Result (Option Solution) E) → IfOk answer (IsKeptOf book.network book.history) → IfOk answer (IsBest names known)
copies names known book of lawful mine (Ok best) kept =
    let kept' : IsKeptOf names.race.network book.history best = subst (λ (n : Network). IsKeptOf n book.history best) of.network kept in
    record {
      history = book.history;
      lawful = lawful_of names book of lawful;
      mine = mine;
      kept = kept';
      no_worse = no_worse names.race.network known book.history mine best kept';
    }
copies names known book of lawful mine (Err e) kept = tt

-- why an event wasn't settled
module _ (names : Names) (known : Known) (book : Progress) (of : IsBookOf names book) (lawful : IsLawful book) (mine : tally_of names.race.network known.standing.number book.history ≡ known.tally) where
  refused : (event : Event) (fault : BookFault) → IsFault names.race.network names.limit book.history event fault → IsRefused names known event fault
  refused event fault is = record { history = book.history; lawful = lawful_of names book of lawful; mine = mine; first_reason = is }

  pub refuses : {X E : Type 0} (answer : Result X E) (fault_of : E → BookFault) (event : Event)
      → IfErr answer (λ e. IsFault names.race.network names.limit book.history event (fault_of e)) → IfErr answer (λ e. IsRefused names known event (fault_of e))
  refuses (Ok x) fault_of event told = tt
  refuses (Err e) fault_of event told = refused event (fault_of e) told

  refused_some : (found : Option Event) (fault : BookFault) → IsSomeAnd found (λ event. IsFault names.race.network names.limit book.history event fault) → IsSomeAnd found (λ event. IsRefused names known event fault)
  refused_some None fault told = told
  refused_some (Some event) fault told = refused event fault told

  pub refuses_at : {X E : Type 0} (answer : Result X E) (count : E → ℕ) (fault_of : E → BookFault) (events : List Event)
      → IfErr answer (λ e. IsFaultAt names.race.network names.limit book.history events (count e) (fault_of e)) → IfErr answer (λ e. IsRefusedAt names known events (count e) (fault_of e))
  refuses_at (Ok x) count fault_of events told = tt
  refuses_at (Err e) count fault_of events told = refused_some (slice_get events (count e)) (fault_of e) told
