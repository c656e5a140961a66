-- What the tellers know together.
use Rattle.std.proofs.Common.{◌++◌, ◌≡◌, ◌≢◌, ℕ, zero, suc, ◌+◌, ◌≤◌, ◌<◌, min, List, [], ◌∷◌, length, fold, filter, sum_by, All, Contains, refl, sym, ap, ◌∙◌, subst, arith, inl, inr}
use Rattle.std.specs.Prelude.{◌==◌}
use Rattle.std.specs.List.{range_with_len}
use Rattle.std.proofs.lemmas.Bool.{cases_eq, eq-eqb, ne_eqb}
use Rattle.std.proofs.lemmas.List.{append-nil, length_push, length-append}
use Rattle.std.proofs.lemmas.List.Elements.{All-head, All-tail, All-contains, filter-append}
use Rattle.std.proofs.lemmas.List.Sums.{sum_by-cons}
use Rattle.tsn_model.specs.declared.Tally.{Tally}
use Rattle.tsn_model.specs.Network.{Network, IsWellFormed}
use Rattle.tsn_model.specs.Certificate.{beyond}
use Rattle.tsn_model.specs.Search.{Outcome, split, solved, pruned, tied, refuted, Settlement, open_paths, solved_bound, pruned_bound, solved_bounds, pruned_bounds, settled_by, tally_of, least_or_none, best_bound, tally_as}
use Rattle.tsn_model.specs.Core.{State, teller_at, IsSound, IsQuiet}
use Rattle.tsn_model.specs.Gathering.{tally_with, IsGathered}
use Rattle.tsn_model.proofs.SearchLists.{flat_map-snoc, All-from_Contains, filter-kept, filter-dropped}
use Rattle.tsn_model.proofs.Numbers.{fold-min-snoc, fold-min-le-each, le-fold-min}
use Rattle.tsn_model.proofs.Covering.{legal_covers}
use Rattle.tsn_model.proofs.BestBounds.{solved_by-among, best-le-solved, best_bound-le, word_is_best}
use Rattle.tsn_model.proofs.Kept.{least_attained}
use Rattle.tsn_model.proofs.Following.{settled_by-this, settled_by-another, solved_bounds-snoc}

-- ---- each settlement is one teller's

settled_one : (k : ℕ) (settlement : Settlement) → settlement.teller ≡ k → length (settled_by k (settlement ∷ [])) ≡ 1
unfolding settled_by
settled_one k settlement same = ap length (filter-kept (λ (s : Settlement). s.teller == k) settlement [] (eq-eqb settlement.teller k same))

settled_none : (k : ℕ) (settlement : Settlement) → settlement.teller ≢ k → length (settled_by k (settlement ∷ [])) ≡ 0
unfolding settled_by
settled_none k settlement other = ap length (filter-dropped (λ (s : Settlement). s.teller == k) settlement [] (ne_eqb settlement.teller k other))

abbrev shares : Settlement → List ℕ → ℕ
shares settlement tellers = sum_by (λ k. length (settled_by k (settlement ∷ []))) tellers

later_none : (settlement : Settlement) (a n : ℕ) → settlement.teller < a → shares settlement (range_with_len a n) ≡ 0
later_none settlement a zero past = refl
later_none settlement a (suc n) past =
    omega (arith, sum_by-cons (λ k. length (settled_by k (settlement ∷ []))) a (range_with_len (a + 1) n), settled_none a settlement (λ same. omega arith), later_none settlement (a + 1) n (omega arith))

-- a settlement is one of its teller's, and of no other's
counted_once : (settlement : Settlement) (a n : ℕ) → a ≤ settlement.teller → settlement.teller < a + n → shares settlement (range_with_len a n) ≡ 1
counted_once settlement a zero low high = absurd (omega arith)
counted_once settlement a (suc n) low high =
    let first = sum_by-cons (λ k. length (settled_by k (settlement ∷ []))) a (range_with_len (a + 1) n) in
    elim (cases_eq settlement.teller a) [
      | inl same ↦ omega (arith, first, settled_one a settlement same, later_none settlement (a + 1) n (omega arith))
      | inr other ↦
          let above : a + 1 ≤ settlement.teller = omega (arith, λ (is : settlement.teller ≡ a). other is) in
          omega (arith, first, settled_none a settlement other, counted_once settlement (a + 1) n above (omega arith))
    ]

settled_by-cons : (k : ℕ) (settlement : Settlement) (history : List Settlement) → length (settled_by k (settlement ∷ history)) ≡ length (settled_by k (settlement ∷ [])) + length (settled_by k history)
unfolding settled_by
settled_by-cons k settlement history =
    ap length (filter-append (λ (s : Settlement). s.teller == k) (settlement ∷ []) history)
    ∙ length-append (filter (λ (s : Settlement). s.teller == k) (settlement ∷ [])) (filter (λ (s : Settlement). s.teller == k) history)

tallies-cons : (settlement : Settlement) (history : List Settlement) (tellers : List ℕ)
    → sum_by (λ k. length (settled_by k (settlement ∷ history))) tellers ≡ shares settlement tellers + sum_by (λ k. length (settled_by k history)) tellers
tallies-cons settlement history [] = refl
tallies-cons settlement history (k ∷ tellers) =
    omega (
      arith,
      sum_by-cons (λ j. length (settled_by j (settlement ∷ history))) k tellers,
      sum_by-cons (λ j. length (settled_by j (settlement ∷ []))) k tellers,
      sum_by-cons (λ j. length (settled_by j history)) k tellers,
      settled_by-cons k settlement history,
      tallies-cons settlement history tellers,
    )

tallies-nil : (tellers : List ℕ) → sum_by (λ k. length (settled_by k [])) tellers ≡ 0
unfolding settled_by
tallies-nil [] = refl
tallies-nil (k ∷ tellers) = omega (arith, sum_by-cons (λ j. length (settled_by j [])) k tellers, tallies-nil tellers)

-- so the tellers' counts add up to the history's
pub tallies_add_up : (tellers : ℕ) (history : List Settlement) → All (λ (s : Settlement). s.teller < tellers) history → sum_by (λ k. length (settled_by k history)) (range_with_len 0 tellers) ≡ length history
tallies_add_up tellers [] all = tallies-nil (range_with_len 0 tellers)
tallies_add_up tellers (settlement ∷ history) all =
    let low : settlement.teller < tellers = All-head (λ (s : Settlement). s.teller < tellers) settlement history all in
    omega (
      arith,
      tallies-cons settlement history (range_with_len 0 tellers),
      counted_once settlement 0 tellers (omega arith) (omega arith),
      tallies_add_up tellers history (All-tail (λ (s : Settlement). s.teller < tellers) settlement history all),
    )

-- the least flowspan is at most what a teller solved
pub best-le-own : (network : Network) (history : List Settlement) (k : ℕ) → best_bound network history ≤ least_or_none network (solved_bounds (settled_by k history))
unfolding least_or_none
best-le-own network history k =
    le-fold-min (best_bound network history) (network.cycle + 1) (solved_bounds (settled_by k history)) (best_bound-le network history)
    (All-from_Contains (λ bound. best_bound network history ≤ bound) (solved_bounds (settled_by k history)) (λ bound found.
    All-contains (λ b. best_bound network history ≤ b) (solved_bounds history) bound (best-le-solved network history) (solved_by-among k history bound found)))

pub tallies_counted : (network : Network) (tellers : ℕ) (history : List Settlement) → All (λ (s : Settlement). s.teller < tellers) history
    → sum_by (λ k. (tally_of network k history).events) (range_with_len 0 tellers) ≡ length history
unfolding tally_of
tallies_counted network tellers history counted = tallies_add_up tellers history counted

pub best-le-tally : (network : Network) (history : List Settlement) (k : ℕ) → best_bound network history ≤ (tally_of network k history).solved
unfolding tally_of
best-le-tally = best-le-own

-- ---- a gathered state

gathered_low : (network : Network) (state : State) → IsGathered network state → (k : ℕ) → k < length state.tellers → beyond network (teller_at state k).seen ≤ least_or_none network (pruned_bounds (settled_by k state.history))
unfolding tally_of
gathered_low network state gathered = gathered.pruned_seen

gathered_even : (network : Network) (state : State) → IsGathered network state → (k : ℕ) → k < length state.tellers → (teller_at state k).posted ≡ least_or_none network (solved_bounds (settled_by k state.history))
unfolding tally_of
gathered_even network state gathered = gathered.even

pub gathered_sound : (network : Network) → IsWellFormed network → (state : State) → IsGathered network state → IsSound network state
unfolding least_or_none
gathered_sound network formed state gathered = record {
  counted = gathered.counted;
  legal = gathered.legal;
  covers = legal_covers network formed state.history gathered.legal;
  word_least = gathered.word_least;
  posted_solved = λ k below.
      elim (least_attained (network.cycle + 1) (solved_bounds (settled_by k state.history))) [
        | inl none ↦ inl (gathered_even network state gathered k below ∙ none)
        | inr among ↦ inr (subst (Contains (solved_bounds (settled_by k state.history))) (sym (gathered_even network state gathered k below)) among)
      ];
  word_seen = gathered.word_seen;
  pruned_seen = λ k below.
      let low = gathered_low network state gathered k below in
      All-from_Contains (λ bound. beyond network (teller_at state k).seen ≤ bound) (pruned_bounds (settled_by k state.history)) (λ bound found.
      let each = All-contains (λ b. fold min (network.cycle + 1) (pruned_bounds (settled_by k state.history)) ≤ b) (pruned_bounds (settled_by k state.history)) bound
      (fold-min-le-each (network.cycle + 1) (pruned_bounds (settled_by k state.history))) found in
      omega (arith, low, each));
}

pub gathered_posted : (network : Network) (state : State) → IsGathered network state → (k : ℕ) → k < length state.tellers → All (λ flowspan. (teller_at state k).posted ≤ flowspan) (solved_bounds (settled_by k state.history))
unfolding least_or_none
gathered_posted network state gathered k below =
    subst (λ p. All (λ flowspan. p ≤ flowspan) (solved_bounds (settled_by k state.history))) (sym (gathered_even network state gathered k below)) (fold-min-le-each (network.cycle + 1) (solved_bounds (settled_by k state.history)))

pub gathered_quiet : (network : Network) (state : State) → IsGathered network state → open_paths state.history ≡ [] → IsQuiet state
gathered_quiet network state gathered none_open = record { none_open = none_open; all_posted = gathered_posted network state gathered }

-- a gathered state's word is the least flowspan that was solved
pub gathered_word : (network : Network) → IsWellFormed network → (state : State) → IsGathered network state → state.word ≡ best_bound network state.history
gathered_word network formed state gathered = word_is_best network state (gathered_sound network formed state gathered) (gathered_posted network state gathered)

-- ---- tallies, with one more settlement

-- the least of some numbers, with one more or none
least-same : (network : Network) (bounds more : List ℕ) → more ≡ [] → least_or_none network (bounds ++ more) ≡ least_or_none network bounds
least-same network bounds more none = ap (λ m. least_or_none network (bounds ++ m)) none ∙ ap (least_or_none network) (append-nil bounds)

least-lower : (network : Network) (bounds more : List ℕ) (bound : ℕ) → more ≡ bound ∷ [] → least_or_none network (bounds ++ more) ≡ min (least_or_none network bounds) bound
unfolding least_or_none
least-lower network bounds more bound one = ap (λ m. fold min (network.cycle + 1) (bounds ++ m)) one ∙ fold-min-snoc (network.cycle + 1) bounds bound

pruned_bounds-snoc : (history : List Settlement) (settlement : Settlement) → pruned_bounds (history ++ settlement ∷ []) ≡ pruned_bounds history ++ pruned_bound settlement.event.outcome
unfolding pruned_bounds
pruned_bounds-snoc history settlement = flat_map-snoc (λ (s : Settlement). pruned_bound s.event.outcome) history settlement

-- the tally of some settlements
abbrev tally_list : Network → List Settlement → Tally
tally_list network mine = tally_as (length mine) (least_or_none network (pruned_bounds mine)) (least_or_none network (solved_bounds mine))

tally-push : (network : Network) (mine : List Settlement) (settlement : Settlement) (outcome : Outcome) → settlement.event.outcome ≡ outcome → tally_list network (mine ++ settlement ∷ []) ≡ tally_with (tally_list network mine) outcome
unfolding tally_with pruned_bound solved_bound
tally-push network mine settlement (split triple) is =
    let fewer = ap (least_or_none network) (pruned_bounds-snoc mine settlement) ∙ least-same network (pruned_bounds mine) (pruned_bound settlement.event.outcome) (ap pruned_bound is) in
    let best = ap (least_or_none network) (solved_bounds-snoc mine settlement) ∙ least-same network (solved_bounds mine) (solved_bound settlement.event.outcome) (ap solved_bound is) in
    λ i. tally_as (length_push mine settlement i) (fewer i) (best i)
tally-push network mine settlement (solved offsets bound leaf chains) is =
    let fewer = ap (least_or_none network) (pruned_bounds-snoc mine settlement) ∙ least-same network (pruned_bounds mine) (pruned_bound settlement.event.outcome) (ap pruned_bound is) in
    let best = ap (least_or_none network) (solved_bounds-snoc mine settlement) ∙ least-lower network (solved_bounds mine) (solved_bound settlement.event.outcome) bound (ap solved_bound is) in
    λ i. tally_as (length_push mine settlement i) (fewer i) (best i)
tally-push network mine settlement (pruned bound leaf) is =
    let fewer = ap (least_or_none network) (pruned_bounds-snoc mine settlement) ∙ least-lower network (pruned_bounds mine) (pruned_bound settlement.event.outcome) bound (ap pruned_bound is) in
    let best = ap (least_or_none network) (solved_bounds-snoc mine settlement) ∙ least-same network (solved_bounds mine) (solved_bound settlement.event.outcome) (ap solved_bound is) in
    λ i. tally_as (length_push mine settlement i) (fewer i) (best i)
tally-push network mine settlement (tied bound leaf chains) is =
    let fewer = ap (least_or_none network) (pruned_bounds-snoc mine settlement) ∙ least-same network (pruned_bounds mine) (pruned_bound settlement.event.outcome) (ap pruned_bound is) in
    let best = ap (least_or_none network) (solved_bounds-snoc mine settlement) ∙ least-same network (solved_bounds mine) (solved_bound settlement.event.outcome) (ap solved_bound is) in
    λ i. tally_as (length_push mine settlement i) (fewer i) (best i)
tally-push network mine settlement (refuted leaf) is =
    let fewer = ap (least_or_none network) (pruned_bounds-snoc mine settlement) ∙ least-same network (pruned_bounds mine) (pruned_bound settlement.event.outcome) (ap pruned_bound is) in
    let best = ap (least_or_none network) (solved_bounds-snoc mine settlement) ∙ least-same network (solved_bounds mine) (solved_bound settlement.event.outcome) (ap solved_bound is) in
    λ i. tally_as (length_push mine settlement i) (fewer i) (best i)

-- a teller's tally takes its own event
pub tally-this : (network : Network) (k : ℕ) (history : List Settlement) (settlement : Settlement) → settlement.teller ≡ k
    → tally_of network k (history ++ settlement ∷ []) ≡ tally_with (tally_of network k history) settlement.event.outcome
unfolding tally_of
tally-this network k history settlement same =
    ap (tally_list network) (settled_by-this k history settlement same) ∙ tally-push network (settled_by k history) settlement settlement.event.outcome refl

-- and no other's
pub tally-another : (network : Network) (k : ℕ) (history : List Settlement) (settlement : Settlement) → settlement.teller ≢ k → tally_of network k (history ++ settlement ∷ []) ≡ tally_of network k history
unfolding tally_of
tally-another network k history settlement other = ap (tally_list network) (settled_by-another k history settlement other)
