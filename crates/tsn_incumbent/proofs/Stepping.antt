-- What a teller does is a step of the shared search.
use Rattle.std.proofs.Common.{◌≡◌, ℕ, ◌+◌, ◌≤◌, ◌<◌, min, List, [], ◌∷◌, ◌++◌, map, length, take, All, Contains, Result, Ok, Err, refl, sym, ap, ◌∙◌, subst, arith, inl, inr, length-append}
use Rattle.std.specs.Prelude.{slice_set, OnOk, IfErr}
use Rattle.std.proofs.lemmas.List.{map-set, length-map, get_or-map, append_assoc, append-nil, take-map}
use Rattle.std.proofs.lemmas.List.Elements.{All-head, All-tail, All-take}
use Rattle.std.proofs.Math.Seq.{map-set_same}
use Rattle.tsn_model.specs.Network.{Network}
use Rattle.tsn_model.specs.Search.{Event, Outcome, Settlement, tally_of, settled_by, solved_bounds, least_or_none, IsLegal}
use Rattle.tsn_model.specs.Core as core
use Rattle.tsn_model.specs.Core.{teller_at, effect_of, IsAboveSeen}
use Rattle.tsn_model.proofs.Lists.{All-unmap}
use Rattle.tsn_model.proofs.Schedules.{flowspan-le-cycle}
use Rattle.tsn_model.proofs.Kept.{least_attained}
use Rattle.tsn_model.specs.declared.Tally.{Tally}
use Rattle.tsn_incumbent.specs.declared.standing.Standing.{Standing}
use Rattle.tsn_book.specs.Book.{IsLawful}
use Rattle.tsn_book.specs.Below.{settlements_by}
use Rattle.tsn_incumbent.specs.Names.{Names, progress_of}
use Rattle.tsn_incumbent.specs.Teller.{Known, settled_all}
use Rattle.tsn_incumbent.specs.Gathered.{state_of}
use Rattle.tsn_incumbent.specs.Steps.{IsAmong, AreSteps, ObservingIsAStep, PostingIsAStep, SettlingIsAStep, TakesSettles, SettlingAllIsSteps}
use Rattle.tsn_incumbent.proofs.Joining.{core_of}
use Rattle.tsn_incumbent.proofs.Batching.{outcomes_of}

module _ (word : ℕ) (tellers : List Known) (history : List Settlement) (known : Known) (among : IsAmong tellers known) where
  within : known.standing.number < length (state_of word tellers history).tellers
  within = omega (arith, among.0, length-map tellers core_of)

  -- what the teller is to the shared search
  is : teller_at (state_of word tellers history) known.standing.number ≡ core_of known
  unfolding teller_at
  is = get_or-map core_of tellers known.standing.number known (record { seen = 0; posted = 0 }) among.0 ∙ ap core_of among.1

pub observing : ObservingIsAStep
unfolding effect_of
observing network limit word tellers history old new among standing tally = (
  within word tellers history old among,
  ap (λ ts. let after : core.State = record { word = word; tellers = ts; history = history } in after)
      (map-set core_of tellers old.standing.number new
      ∙ ap (λ (s : Standing). slice_set (map core_of tellers) old.standing.number (record { seen = s.seen; posted = s.posted })) standing
      ∙ ap (λ (t : core.Teller). slice_set (map core_of tellers) old.standing.number (record { seen = min t.seen word; posted = t.posted })) (sym (is word tellers history old among))),
)

-- the least flowspan that a teller solved is one that it solved, unless it is one more than the cycle
solved_least : (network : Network) (k : ℕ) (history : List Settlement) → (tally_of network k history).solved ≤ network.cycle
    → Contains (solved_bounds (settled_by k history)) (tally_of network k history).solved
unfolding tally_of least_or_none
solved_least network k history low =
    elim (least_attained (network.cycle + 1) (solved_bounds (settled_by k history))) [
      | inl none ↦ absurd (omega (arith, none))
      | inr among ↦ among
    ]

pub posting : PostingIsAStep
unfolding effect_of
posting network limit word tellers history old new among mine schedule solved least standing tally =
    let same : schedule.flowspan ≡ (tally_of network old.standing.number history).solved = least ∙ ap (λ (t : Tally). t.solved) mine in
    let low = subst (λ n. n ≤ network.cycle) (solved.1 ∙ same) (flowspan-le-cycle network schedule.offsets solved.0) in (
      (within word tellers history old among, subst (Contains (solved_bounds (settled_by old.standing.number history))) (sym same) (solved_least network old.standing.number history low)),
      ap (λ ts. let after : core.State = record { word = min word schedule.flowspan; tellers = ts; history = history } in after)
          (map-set core_of tellers old.standing.number new
          ∙ ap (λ (s : Standing). slice_set (map core_of tellers) old.standing.number (record { seen = s.seen; posted = s.posted })) standing
          ∙ ap (λ (t : core.Teller). slice_set (map core_of tellers) old.standing.number (record { seen = min t.seen schedule.flowspan; posted = min t.posted schedule.flowspan })) (sym (is word tellers history old among))),
    )

pub settling : SettlingIsAStep
unfolding effect_of
settling names word tellers history old new among event lawful above taken =
    let settlement : Settlement = record { teller = old.standing.number; event = event } in
    let room : length history < names.limit = omega (arith, lawful.within_limit, length-append history (settlement ∷ [])) in (
      (within word tellers history old among, room, lawful.legal.each history [] settlement refl, subst (λ (t : core.Teller). IsAboveSeen names.race.network t.seen event.outcome) (sym (is word tellers history old among)) above),
      ap (λ ts. let after : core.State = record { word = word; tellers = ts; history = history ++ settlement ∷ [] } in after)
          (map-set_same core_of tellers old.standing.number new old (ap core_of taken ∙ ap core_of (sym among.1))),
    )

-- one step of the shared search for each event of a list
module _ (network : Network) (limit word k : ℕ) (tellers : List core.Teller) (within : k < length tellers) where
  abbrev state : List Settlement → core.State
  state history = record { word = word; tellers = tellers; history = history }

  settles : (history : List Settlement) (events : List Event) → let after : List Settlement = history ++ settlements_by k events in
      IsLegal network after → length after ≤ limit → All (λ event. IsAboveSeen network (teller_at (state history) k).seen event.outcome) events
      → AreSteps network limit (state history) (map (core.settle k) events) (state after)
  unfolding effect_of teller_at
  settles history [] legal few above = ap state (append-nil history)
  settles history (event ∷ events) legal few above =
      let settlement : Settlement = record { teller = k; event = event } in
      let seen = (teller_at (state history) k).seen in
      let more = history ++ settlement ∷ [] in
      let same = append_assoc history (settlement ∷ []) (settlements_by k events) in
      let room : length history < limit = omega (arith, few, length-append history (settlements_by k (event ∷ events))) in
      let allowed = legal.each history (settlements_by k events) settlement refl in (
        state more,
        ((within, room, allowed, All-head (λ (e : Event). IsAboveSeen network seen e.outcome) event events above), refl),
        subst (λ after. AreSteps network limit (state more) (map (core.settle k) events) (state after)) same
            (settles more events (subst (IsLegal network) (sym same) legal) (subst (λ after. length after ≤ limit) (sym same) few)
            (All-tail (λ (e : Event). IsAboveSeen network seen e.outcome) event events above)),
      )

pub settling_all : SettlingAllIsSteps
settling_all names history old new events lawful above taken word tellers among =
    let k = old.standing.number in
    let network = names.race.network in
    let after = history ++ settlements_by k events in
    let stands = sym (is word tellers history old among) in
    let seen = subst (λ (t : core.Teller). All (λ (event : Event). IsAboveSeen network t.seen event.outcome) events) stands above in
    let same = map-set_same core_of tellers k new old (ap core_of taken ∙ ap core_of (sym among.1)) in
    subst (λ ts. AreSteps network names.limit (state_of word tellers history) (map (core.settle k) events) (record { word = word; tellers = ts; history = after })) (sym same)
    (settles network names.limit word k (map core_of tellers) (within word tellers history old among) history events lawful.legal lawful.within_limit seen)

-- so for what was settled: all of the events, or as many as a refusal counts
module _ (names : Names) (old new : Known) (before after : List Settlement) (lawful : IsLawful (progress_of names after)) where
  abbrev AreAbove : List Outcome → Type 0
  AreAbove outcomes = All (IsAboveSeen names.race.network old.standing.seen) outcomes

  abbrev IsAfter : List Event → Type 0
  IsAfter events = after ≡ before ++ settlements_by old.standing.number events

  settles_these : (events : List Event) → IsAfter events → new ≡ settled_all (outcomes_of events) old → AreAbove (outcomes_of events)
      → TakesSettles names old new before events after
  settles_these events more taken above =
      let seen = All-unmap (IsAboveSeen names.race.network old.standing.seen) (λ (event : Event). event.outcome) events above in
      subst (TakesSettles names old new before events) (sym more)
      (settling_all names before old new events (subst (λ history. IsLawful (progress_of names history)) more lawful) seen taken)

  pub settles_all : {U E : Type 0} (answer : Result U E) (events : List Event) (outcomes : List Outcome) → outcomes_of events ≡ outcomes → AreAbove outcomes
      → OnOk answer (IsAfter events) → OnOk answer (new ≡ settled_all outcomes old) → OnOk answer (TakesSettles names old new before events after)
  settles_all (Ok u) events outcomes same above more taken =
      settles_these events more (taken ∙ ap (λ given. settled_all given old) (sym same)) (subst AreAbove (sym same) above)
  settles_all (Err e) events outcomes same above more taken = tt

  pub settles_some : {U E : Type 0} (answer : Result U E) (count : E → ℕ) (A C : E → Type 0) (events : List Event) (outcomes : List Outcome)
      → outcomes_of events ≡ outcomes → AreAbove outcomes → IfErr answer (λ e. IsAfter (take (count e) events))
      → IfErr answer (λ e. A e × (new ≡ settled_all (take (count e) outcomes) old) × C e)
      → IfErr answer (λ e. TakesSettles names old new before (take (count e) events) after)
  settles_some (Ok u) count A C events outcomes same above more some = tt
  settles_some (Err e) count A C events outcomes same above more some =
      let fewer = sym (take-map (λ (event : Event). event.outcome) (count e) events) ∙ ap (take (count e)) same in
      let seen = All-take (IsAboveSeen names.race.network old.standing.seen) (count e) outcomes above in
      settles_these (take (count e) events) more (some.1 ∙ ap (λ given. settled_all given old) (sym fewer)) (subst AreAbove (sym fewer) seen)
