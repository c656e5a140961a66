-- The bounds of what a legal history settled.
use Rattle.std.proofs.Common.{◌≡◌, ℕ, ◌+◌, ◌≤◌, ◌<◌, min, List, ◌∷◌, ◌++◌, map, length, get_or, fold, All, Contains, refl, sym, ap, ◌∙◌, subst, arith, inl, inr}
use Rattle.std.specs.Prelude.{◌==◌}
use Rattle.std.proofs.lemmas.Bool.{eq-eqb}
use Rattle.std.proofs.lemmas.List.{length-map, get_or-map}
use Rattle.std.proofs.lemmas.List.Concat.{flat_map-append}
use Rattle.std.proofs.lemmas.List.Elements.{All-contains}
use Rattle.std.proofs.lemmas.Grind.{fold-append}
use Rattle.tsn_model.specs.declared.Decision.{Decision}
use Rattle.tsn_model.specs.Network.{Network}
use Rattle.tsn_model.specs.Certificate.{beyond}
use Rattle.tsn_model.specs.Search.{Outcome, split, solved, pruned, tied, refuted, Settlement, solved_bound, pruned_bound, solved_bounds, pruned_bounds, settled_by, least_or_none, best_bound, IsRight, IsAllowed, IsLegal}
use Rattle.tsn_model.specs.Core.{Teller, State, teller_at, IsSound, IsQuiet}
use Rattle.tsn_model.proofs.Lists.{Contains-flat_map, Contains-filter, from_filter, Contains-nil, from_flat_map}
use Rattle.tsn_model.proofs.SearchLists.{Contains-split, All-from_Contains, Contains-one}
use Rattle.tsn_model.proofs.Numbers.{fold-min-le, fold-min-le-each, le-fold-min}

-- the target is at most each solved bound, and each pruned bound is worse
pub record IsBelowBounds (network : Network) (target : ℕ) (history : List Settlement) : Type 0 where
  pub solved : All (λ bound. target ≤ bound) (solved_bounds history)
  pub pruned : All (λ bound. beyond network target ≤ bound) (pruned_bounds history)

-- what is worse than a greater number is worse
pub beyond-le : (network : Network) (a b : ℕ) → a ≤ b → beyond network a ≤ beyond network b
unfolding beyond
beyond-le network a b low = omega arith

-- a greater number is worse
pub beyond-greater : (network : Network) (a b : ℕ) → a < b → beyond network a ≤ b
unfolding beyond
beyond-greater network a b less = omega arith

-- what a legal history settled was right at its time
pub settlement_right : (network : Network) (history : List Settlement) → IsLegal network history → (settlement : Settlement) → Contains history settlement
    → (before : List Settlement) × (after : List Settlement) × (history ≡ before ++ settlement ∷ after) × IsAllowed network before settlement.event
settlement_right network history legal settlement found =
    let parts = Contains-split settlement history found in
    (parts.0, parts.1, parts.2, legal.each parts.0 parts.1 settlement parts.2)

pub solved_among : (history : List Settlement) (settlement : Settlement) (bound : ℕ) → Contains history settlement → Contains (solved_bound settlement.event.outcome) bound → Contains (solved_bounds history) bound
unfolding solved_bounds
solved_among history settlement bound found at = Contains-flat_map (λ (s : Settlement). solved_bound s.event.outcome) history settlement bound found at

pub pruned_among : (history : List Settlement) (settlement : Settlement) (bound : ℕ) → Contains history settlement → Contains (pruned_bound settlement.event.outcome) bound → Contains (pruned_bounds history) bound
unfolding pruned_bounds
pruned_among history settlement bound found at = Contains-flat_map (λ (s : Settlement). pruned_bound s.event.outcome) history settlement bound found at

-- ---- the least solved flowspan is a target

pub solved_bounds-append : (xs ys : List Settlement) → solved_bounds (xs ++ ys) ≡ solved_bounds xs ++ solved_bounds ys
unfolding solved_bounds
solved_bounds-append xs ys = flat_map-append (λ (s : Settlement). solved_bound s.event.outcome) xs ys

-- it never rises
pub best_bound-append : (network : Network) (before after : List Settlement) → best_bound network (before ++ after) ≤ best_bound network before
unfolding best_bound least_or_none
best_bound-append network before after =
    let start : ℕ = fold min (network.cycle + 1) (solved_bounds before) in
    let is : fold min (network.cycle + 1) (solved_bounds (before ++ after)) ≡ fold min start (solved_bounds after) =
    ap (fold min (network.cycle + 1)) (solved_bounds-append before after) ∙ fold-append min (network.cycle + 1) (solved_bounds before) (solved_bounds after) in
    omega (arith, is, fold-min-le start (solved_bounds after))

pub best-le-solved : (network : Network) (history : List Settlement) → All (λ bound. best_bound network history ≤ bound) (solved_bounds history)
unfolding best_bound least_or_none
best-le-solved network history = fold-min-le-each (network.cycle + 1) (solved_bounds history)

pub best_bound-le : (network : Network) (history : List Settlement) → best_bound network history ≤ network.cycle + 1
unfolding best_bound least_or_none
best_bound-le network history = fold-min-le (network.cycle + 1) (solved_bounds history)

best-lt-pruned_at : (network : Network) (before : List Settlement) (path : List Decision) (outcome : Outcome) → IsRight network before path outcome → (bound : ℕ) → Contains (pruned_bound outcome) bound → beyond network (best_bound network before) ≤ bound
unfolding pruned_bound
best-lt-pruned_at network before path (split triple) right bound at = absurd (Contains-nil bound at)
best-lt-pruned_at network before path (solved offsets other proof chains) right bound at = absurd (Contains-nil bound at)
best-lt-pruned_at network before path (pruned other proof) right bound at =
    let is : other ≡ bound = Contains-one other bound at in
    let low = right.1 in
    omega (arith, is, low)
best-lt-pruned_at network before path (tied other proof chains) right bound at = absurd (Contains-nil bound at)
best-lt-pruned_at network before path (refuted proof) right bound at = absurd (Contains-nil bound at)

pub best_is_below : (network : Network) (history : List Settlement) → IsLegal network history → IsBelowBounds network (best_bound network history) history
unfolding pruned_bounds
best_is_below network history legal = record {
  solved = best-le-solved network history;
  pruned = All-from_Contains (λ bound. beyond network (best_bound network history) ≤ bound) (pruned_bounds history) (λ bound found.
      let of = from_flat_map (λ (s : Settlement). pruned_bound s.event.outcome) history bound found in
      let right = settlement_right network history legal of.0 of.1 in
      let fallen : best_bound network history ≤ best_bound network right.0 =
      subst (λ h. best_bound network h ≤ best_bound network right.0) (sym right.2) (best_bound-append network right.0 (of.0 ∷ right.1)) in
      let low = best-lt-pruned_at network right.0 of.0.event.path of.0.event.outcome right.3.is_right bound of.2 in
      omega (arith, low, beyond-le network (best_bound network history) (best_bound network right.0) fallen));
}

-- ---- in a sound and quiet state the word is a target

settled_by_itself : (history : List Settlement) (settlement : Settlement) → Contains history settlement → Contains (settled_by settlement.teller history) settlement
unfolding settled_by
settled_by_itself history settlement found = Contains-filter (λ (s : Settlement). s.teller == settlement.teller) history settlement found (eq-eqb settlement.teller settlement.teller refl)

-- the word is at most what each teller has posted
pub word-le-posted : (network : Network) (state : State) → IsSound network state → (k : ℕ) → k < length state.tellers → state.word ≤ (teller_at state k).posted
unfolding least_or_none teller_at
word-le-posted network state sound k below =
    let none : Teller = record { seen = 0; posted = 0 } in
    let posts : List ℕ = map (λ (t : Teller). t.posted) state.tellers in
    let least = fold-min-le-each (network.cycle + 1) posts k 0 (omega (arith, length-map state.tellers (λ (t : Teller). t.posted))) in
    let at_k : get_or posts k 0 ≡ (get_or state.tellers k none).posted = get_or-map (λ (t : Teller). t.posted) state.tellers k none 0 below in
    let word = sound.word_least in
    omega (arith, least, at_k, word)

pub word-le-solved : (network : Network) (state : State) → IsSound network state
    → ((k : ℕ) → k < length state.tellers → All (λ flowspan. (teller_at state k).posted ≤ flowspan) (solved_bounds (settled_by k state.history)))
    → All (λ bound. state.word ≤ bound) (solved_bounds state.history)
unfolding solved_bounds
word-le-solved network state sound all_posted =
    All-from_Contains (λ bound. state.word ≤ bound) (solved_bounds state.history) (λ bound found.
    let of = from_flat_map (λ (s : Settlement). solved_bound s.event.outcome) state.history bound found in
    let k : ℕ = of.0.teller in
    let below : k < length state.tellers = All-contains (λ (s : Settlement). s.teller < length state.tellers) state.history of.0 sound.counted of.1 in
    let mine = solved_among (settled_by k state.history) of.0 bound (settled_by_itself state.history of.0 of.1) of.2 in
    let posted = All-contains (λ flowspan. (teller_at state k).posted ≤ flowspan) (solved_bounds (settled_by k state.history)) bound (all_posted k below) mine in
    omega (arith, posted, word-le-posted network state sound k below))

pub word-lt-pruned : (network : Network) (state : State) → IsSound network state → All (λ bound. beyond network state.word ≤ bound) (pruned_bounds state.history)
unfolding pruned_bounds
word-lt-pruned network state sound =
    All-from_Contains (λ bound. beyond network state.word ≤ bound) (pruned_bounds state.history) (λ bound found.
    let of = from_flat_map (λ (s : Settlement). pruned_bound s.event.outcome) state.history bound found in
    let k : ℕ = of.0.teller in
    let below : k < length state.tellers = All-contains (λ (s : Settlement). s.teller < length state.tellers) state.history of.0 sound.counted of.1 in
    let mine = pruned_among (settled_by k state.history) of.0 bound (settled_by_itself state.history of.0 of.1) of.2 in
    let seen = All-contains (λ b. beyond network (teller_at state k).seen ≤ b) (pruned_bounds (settled_by k state.history)) bound (sound.pruned_seen k below) mine in
    let word = sound.word_seen k below in
    omega (arith, seen, beyond-le network state.word (teller_at state k).seen word))

pub word_is_below : (network : Network) (state : State) → IsSound network state → IsQuiet state → IsBelowBounds network state.word state.history
word_is_below network state sound quiet = record { solved = word-le-solved network state sound quiet.all_posted; pruned = word-lt-pruned network state sound }

-- what a teller has settled was settled
pub solved_by-among : (k : ℕ) (history : List Settlement) (bound : ℕ) → Contains (solved_bounds (settled_by k history)) bound → Contains (solved_bounds history) bound
unfolding solved_bounds settled_by
solved_by-among k history bound found =
    let of = from_flat_map (λ (s : Settlement). solved_bound s.event.outcome) (settled_by k history) bound found in
    Contains-flat_map (λ (s : Settlement). solved_bound s.event.outcome) history of.0 bound (from_filter (λ (s : Settlement). s.teller == k) history of.0 of.1).0 of.2

-- the least solved flowspan is at most what each teller has posted
best-le-posted : (network : Network) (state : State) → IsSound network state → (k : ℕ) → k < length state.tellers → best_bound network state.history ≤ (teller_at state k).posted
best-le-posted network state sound k below =
    elim (sound.posted_solved k below) [
      | inl unposted ↦ omega (arith, unposted, best_bound-le network state.history)
      | inr known ↦ All-contains (λ b. best_bound network state.history ≤ b) (solved_bounds state.history) (teller_at state k).posted (best-le-solved network state.history) (solved_by-among k state.history (teller_at state k).posted known)
    ]

best-le-word : (network : Network) (state : State) → IsSound network state → best_bound network state.history ≤ state.word
unfolding least_or_none teller_at
best-le-word network state sound =
    let none : Teller = record { seen = 0; posted = 0 } in
    let posts : List ℕ = map (λ (t : Teller). t.posted) state.tellers in
    let low : All (λ p. best_bound network state.history ≤ p) posts = λ k d below.
    let in_tellers : k < length state.tellers = omega (arith, length-map state.tellers (λ (t : Teller). t.posted)) in
    let is : get_or posts k d ≡ (get_or state.tellers k none).posted = get_or-map (λ (t : Teller). t.posted) state.tellers k none d in_tellers in
    omega (arith, is, best-le-posted network state sound k in_tellers) in
    let word = sound.word_least in
    omega (arith, word, le-fold-min (best_bound network state.history) (network.cycle + 1) posts (best_bound-le network state.history) low)

word-le-start : (network : Network) (state : State) → IsSound network state → state.word ≤ network.cycle + 1
unfolding least_or_none
word-le-start network state sound =
    let word = sound.word_least in
    omega (arith, word, fold-min-le (network.cycle + 1) (map (λ (t : Teller). t.posted) state.tellers))

-- what is worse than a teller has seen is worse than all that was solved
pub seen-le-pruned : (network : Network) (state : State) → IsSound network state → (k : ℕ) → k < length state.tellers → (bound : ℕ) → beyond network (teller_at state k).seen ≤ bound → beyond network (best_bound network state.history) ≤ bound
seen-le-pruned network state sound k below bound above =
    let seen = sound.word_seen k below in
    let best = best-le-word network state sound in
    omega (arith, above, beyond-le network (best_bound network state.history) (teller_at state k).seen (omega (arith, seen, best)))

-- where each teller has posted what it solved, the word is the least solved flowspan
pub word_is_best : (network : Network) (state : State) → IsSound network state
    → ((k : ℕ) → k < length state.tellers → All (λ flowspan. (teller_at state k).posted ≤ flowspan) (solved_bounds (settled_by k state.history)))
    → state.word ≡ best_bound network state.history
unfolding best_bound least_or_none
word_is_best network state sound all_posted =
    let high = le-fold-min state.word (network.cycle + 1) (solved_bounds state.history) (word-le-start network state sound) (word-le-solved network state sound all_posted) in
    omega (arith, high, best-le-word network state sound)
