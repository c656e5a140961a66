-- Each step of the core keeps the state sound.
use Rattle.std.proofs.Common.{◌≡◌, ◌≢◌, ℕ, zero, suc, ◌+◌, ◌≤◌, ◌<◌, min, List, [], ◌∷◌, ◌++◌, map, length, get_or, fold, All, Contains, refl, sym, ap, ◌∙◌, subst, arith, ◌⊎◌, inl, inr}
use Rattle.std.specs.Prelude.{slice_set, replicate, ◌==◌}
use Rattle.std.proofs.lemmas.Bool.{cases_eq, cases_lt, eq-eqb, ne_eqb}
use Rattle.std.proofs.lemmas.List.{append-nil, length-set, get_or-set_same, get_or-set_other, set-get_or, map-set, get_or-map, get_or-replicate, length-replicate, length-map}
use Rattle.std.proofs.lemmas.List.Concat.{flat_map-append}
use Rattle.std.proofs.lemmas.List.Elements.{All-nil, All-cons, All-append, All-push, All-weaker, filter-append, Contains-append_left}
use Rattle.tsn_model.specs.Network.{Network, IsWellFormed}
use Rattle.tsn_model.specs.Certificate.{beyond}
use Rattle.tsn_model.specs.Search.{Event, Settlement, Outcome, split, solved, pruned, tied, refuted, IsAllowed, settled_by, pruned_bound, solved_bounds, pruned_bounds, least_or_none}
use Rattle.tsn_model.specs.Core.{Teller, State, initial_state, Step, observe, post, settle, teller_at, IsAboveSeen, MayTake, effect_of, IsSound}
use Rattle.tsn_model.proofs.SearchLists.{filter-kept, filter-dropped}
use Rattle.tsn_model.proofs.Numbers.{fold-min-set, fold-min-replicate}
use Rattle.tsn_model.proofs.Histories.{legal_nil, legal_snoc}
use Rattle.tsn_model.proofs.BestBounds.{beyond-le, solved_bounds-append}
use Rattle.tsn_model.proofs.Covering.{legal_covers}

-- ---- what one teller settled, with one more settlement

settled_by-append : (k : ℕ) (xs ys : List Settlement) → settled_by k (xs ++ ys) ≡ settled_by k xs ++ settled_by k ys
unfolding settled_by
settled_by-append k xs ys = filter-append (λ (s : Settlement). s.teller == k) xs ys

settled_by-same : (k : ℕ) (settlement : Settlement) → settlement.teller ≡ k → settled_by k (settlement ∷ []) ≡ settlement ∷ []
unfolding settled_by
settled_by-same k settlement same = filter-kept (λ (s : Settlement). s.teller == k) settlement [] (eq-eqb settlement.teller k same)

settled_by-other : (k : ℕ) (settlement : Settlement) → settlement.teller ≢ k → settled_by k (settlement ∷ []) ≡ []
unfolding settled_by
settled_by-other k settlement other = filter-dropped (λ (s : Settlement). s.teller == k) settlement [] (ne_eqb settlement.teller k other)

pruned_bounds-append : (xs ys : List Settlement) → pruned_bounds (xs ++ ys) ≡ pruned_bounds xs ++ pruned_bounds ys
unfolding pruned_bounds
pruned_bounds-append xs ys = flat_map-append (λ (s : Settlement). pruned_bound s.event.outcome) xs ys

-- a bound that a teller has solved stays among them
solved_stays : (k : ℕ) (history : List Settlement) (settlement : Settlement) (bound : ℕ) → Contains (solved_bounds (settled_by k history)) bound → Contains (solved_bounds (settled_by k (history ++ settlement ∷ []))) bound
solved_stays k history settlement bound found =
    subst (λ bounds. Contains bounds bound)
    (sym (ap solved_bounds (settled_by-append k history (settlement ∷ [])) ∙ solved_bounds-append (settled_by k history) (settled_by k (settlement ∷ []))))
    (Contains-append_left (solved_bounds (settled_by k history)) (solved_bounds (settled_by k (settlement ∷ []))) bound found)

seen_below_pruned : (network : Network) (seen : ℕ) (outcome : Outcome) → IsAboveSeen network seen outcome → All (λ bound. beyond network seen ≤ bound) (pruned_bound outcome)
unfolding pruned_bound
seen_below_pruned network seen (split triple) above = All-nil (λ bound. beyond network seen ≤ bound)
seen_below_pruned network seen (solved offsets bound leaf chains) above = All-nil (λ bound. beyond network seen ≤ bound)
seen_below_pruned network seen (pruned bound leaf) above = All-cons (λ bound. beyond network seen ≤ bound) bound [] above (All-nil (λ bound. beyond network seen ≤ bound))
seen_below_pruned network seen (tied bound leaf chains) above = All-nil (λ bound. beyond network seen ≤ bound)
seen_below_pruned network seen (refuted leaf) above = All-nil (λ bound. beyond network seen ≤ bound)

pruned_bounds-one : (settlement : Settlement) → pruned_bounds (settlement ∷ []) ≡ pruned_bound settlement.event.outcome
unfolding pruned_bounds
pruned_bounds-one settlement = append-nil (pruned_bound settlement.event.outcome)

none_pruned : (least : ℕ) → All (λ bound. least ≤ bound) (pruned_bounds [])
unfolding pruned_bounds
none_pruned least = All-nil (λ bound. least ≤ bound)

pruned_more : (network : Network) (k j seen : ℕ) (history : List Settlement) (event : Event) → All (λ bound. beyond network seen ≤ bound) (pruned_bounds (settled_by j history)) → (j ≡ k → IsAboveSeen network seen event.outcome)
    → All (λ bound. beyond network seen ≤ bound) (pruned_bounds (settled_by j (history ++ record { teller = k; event = event } ∷ [])))
pruned_more network k j seen history event before above =
    let settlement : Settlement = record { teller = k; event = event } in
    let worse = λ (bound : ℕ). beyond network seen ≤ bound in
    let latest : All worse (pruned_bounds (settled_by j (settlement ∷ []))) =
    elim (cases_eq k j) [
      | inl same ↦ subst (All worse) (sym (ap pruned_bounds (settled_by-same j settlement same) ∙ pruned_bounds-one settlement)) (seen_below_pruned network seen event.outcome (above (sym same)))
      | inr other ↦ subst (λ mine. All worse (pruned_bounds mine)) (sym (settled_by-other j settlement other)) (none_pruned (beyond network seen))
    ] in
    subst (All worse)
    (sym (ap pruned_bounds (settled_by-append j history (settlement ∷ [])) ∙ pruned_bounds-append (settled_by j history) (settled_by j (settlement ∷ []))))
    (All-append worse (pruned_bounds (settled_by j history)) (pruned_bounds (settled_by j (settlement ∷ []))) before latest)

-- ---- tellers, one of them changed

abbrev none : Teller
none = record { seen = 0; posted = 0 }

-- what holds of the changed teller, and of each other one, holds of each after the change
teller_case : (P : Teller → Type 0) (tellers : List Teller) (k : ℕ) (changed : Teller) (j : ℕ) → k < length tellers
    → (j ≡ k → P changed) → (j ≢ k → P (get_or tellers j none)) → P (get_or (slice_set tellers k changed) j none)
teller_case P tellers k changed j below this other =
    elim (cases_eq j k) [
      | inl same ↦ subst P (sym (ap (λ i. get_or (slice_set tellers k changed) i none) same ∙ get_or-set_same tellers k changed none below)) (this same)
      | inr apart ↦ subst P (sym (get_or-set_other tellers k j changed none apart)) (other apart)
    ]

-- the posted numbers where teller k was changed
posted-set : (tellers : List Teller) (k : ℕ) (changed : Teller) → map (λ (t : Teller). t.posted) (slice_set tellers k changed) ≡ slice_set (map (λ (t : Teller). t.posted) tellers) k changed.posted
posted-set tellers k changed = map-set (λ (t : Teller). t.posted) tellers k changed

-- ---- the steps

module _ (network : Network) (state : State) (sound : IsSound network state) (k : ℕ) (below : k < length state.tellers) where
  -- another word, and a teller whose numbers fit to it
  change_sound : (word : ℕ) (changed : Teller)
      → word ≡ least_or_none network (map (λ (t : Teller). t.posted) (slice_set state.tellers k changed))
      → (changed.posted ≡ network.cycle + 1) ⊎ Contains (solved_bounds (settled_by k state.history)) changed.posted
      → word ≤ state.word → word ≤ changed.seen → changed.seen ≤ (teller_at state k).seen
      → IsSound network (record { word = word; tellers = slice_set state.tellers k changed; history = state.history })
  unfolding teller_at
  change_sound word changed least posted fallen seen lower = record {
    counted = subst (λ n. All (λ (s : Settlement). s.teller < n) state.history) (sym (length-set state.tellers k changed)) sound.counted;
    legal = sound.legal;
    covers = sound.covers;
    word_least = least;
    posted_solved = λ j in_range.
        teller_case (λ t. (t.posted ≡ network.cycle + 1) ⊎ Contains (solved_bounds (settled_by j state.history)) t.posted) state.tellers k changed j below
        (λ same. subst (λ i. (changed.posted ≡ network.cycle + 1) ⊎ Contains (solved_bounds (settled_by i state.history)) changed.posted) (sym same) posted)
        (λ apart. sound.posted_solved j (omega (arith, length-set state.tellers k changed)));
    word_seen = λ j in_range.
        teller_case (λ t. word ≤ t.seen) state.tellers k changed j below (λ same. seen)
        (λ apart. let was = sound.word_seen j (omega (arith, length-set state.tellers k changed)) in omega (arith, was));
    pruned_seen = λ j in_range.
        teller_case (λ t. All (λ bound. beyond network t.seen ≤ bound) (pruned_bounds (settled_by j state.history))) state.tellers k changed j below
        (λ same. All-weaker (λ bound. beyond network (teller_at state k).seen ≤ bound) (λ bound. beyond network changed.seen ≤ bound)
        (λ bound above. omega (arith, above, beyond-le network changed.seen (teller_at state k).seen lower))
        (pruned_bounds (settled_by j state.history))
        (subst (λ i. All (λ bound. beyond network (teller_at state k).seen ≤ bound) (pruned_bounds (settled_by i state.history))) (sym same) (sound.pruned_seen k below)))
        (λ apart. sound.pruned_seen j (omega (arith, length-set state.tellers k changed)));
  }

  observe_sound : IsSound network (effect_of state (observe k))
  unfolding effect_of teller_at
  observe_sound =
      let old : Teller = get_or state.tellers k none in
      let was = sound.word_seen k below in
      change_sound state.word (record { seen = min old.seen state.word; posted = old.posted })
      (sound.word_least ∙ ap (least_or_none network) (sym (posted-set state.tellers k (record { seen = min old.seen state.word; posted = old.posted }) ∙ same_posted old)))
      (sound.posted_solved k below) (omega arith) (omega (arith, was)) (omega arith)
    where
      same_posted : (old : Teller) → slice_set (map (λ (t : Teller). t.posted) state.tellers) k (get_or state.tellers k none).posted ≡ map (λ (t : Teller). t.posted) state.tellers
      same_posted old = sym (map-set (λ (t : Teller). t.posted) state.tellers k (get_or state.tellers k none)) ∙ ap (map (λ (t : Teller). t.posted)) (set-get_or state.tellers k none)

  post_sound : (flowspan : ℕ) → Contains (solved_bounds (settled_by k state.history)) flowspan → IsSound network (effect_of state (post k flowspan))
  unfolding effect_of teller_at least_or_none
  post_sound flowspan known =
      let old : Teller = get_or state.tellers k none in
      let changed : Teller = record { seen = min old.seen flowspan; posted = min old.posted flowspan } in
      let posts : List ℕ = map (λ (t : Teller). t.posted) state.tellers in
      let was = sound.word_seen k below in
      let at_k : get_or posts k 0 ≡ old.posted = get_or-map (λ (t : Teller). t.posted) state.tellers k none 0 below in
      let in_posts : k < length posts = omega (arith, length-map state.tellers (λ (t : Teller). t.posted)) in
      let lowered : fold min (network.cycle + 1) (slice_set posts k (min old.posted flowspan)) ≡ min state.word flowspan =
      ap (λ p. fold min (network.cycle + 1) (slice_set posts k (min p flowspan))) (sym at_k)
      ∙ fold-min-set (network.cycle + 1) posts k flowspan in_posts ∙ ap (λ w. min w flowspan) (sym sound.word_least) in
      let posted : (min old.posted flowspan ≡ network.cycle + 1) ⊎ Contains (solved_bounds (settled_by k state.history)) (min old.posted flowspan) =
      elim (cases_lt flowspan old.posted) [
        | inl less ↦ inr (subst (Contains (solved_bounds (settled_by k state.history))) (omega arith) known)
        | inr not_less ↦
            let kept : old.posted ≡ min old.posted flowspan = omega arith in
            subst (λ p. (p ≡ network.cycle + 1) ⊎ Contains (solved_bounds (settled_by k state.history)) p) kept (sound.posted_solved k below)
      ] in
      change_sound (min state.word flowspan) changed
      (sym lowered ∙ ap (fold min (network.cycle + 1)) (sym (posted-set state.tellers k changed)))
      posted (omega arith) (omega (arith, was)) (omega arith)

  settle_sound : IsWellFormed network → (event : Event) → IsAllowed network state.history event → IsAboveSeen network (teller_at state k).seen event.outcome → IsSound network (effect_of state (settle k event))
  unfolding effect_of teller_at
  settle_sound formed event allowed above =
      let settlement : Settlement = record { teller = k; event = event } in
      let legal = legal_snoc network state.history settlement sound.legal allowed in
      record {
        counted = All-push (λ (s : Settlement). s.teller < length state.tellers) state.history settlement sound.counted below;
        legal = legal;
        covers = legal_covers network formed (state.history ++ settlement ∷ []) legal;
        word_least = sound.word_least;
        posted_solved = λ j in_range. elim (sound.posted_solved j in_range) [
          | inl unposted ↦ inl unposted
          | inr solved' ↦ inr (solved_stays j state.history settlement (teller_at state j).posted solved')
        ];
        word_seen = sound.word_seen;
        pruned_seen = λ j in_range.
            pruned_more network k j (teller_at state j).seen state.history event (sound.pruned_seen j in_range)
            (λ same. subst (λ i. IsAboveSeen network (teller_at state i).seen event.outcome) (sym same) above);
      }

-- an allowed step keeps the state sound
pub effect_sound : (network : Network) → IsWellFormed network → (limit : ℕ) (state : State) (step : Step) → IsSound network state → MayTake network limit state step → IsSound network (effect_of state step)
effect_sound network formed limit state (observe k) sound may = observe_sound network state sound k may
effect_sound network formed limit state (post k flowspan) sound may = post_sound network state sound k may.0 flowspan may.1
effect_sound network formed limit state (settle k event) sound may = settle_sound network state sound k may.0 formed event may.2 may.3

-- ---- the start

replicate-map : (f : Teller → ℕ) (n : ℕ) (teller : Teller) → map f (replicate n teller) ≡ replicate n (f teller)
replicate-map f zero teller = refl
replicate-map f (suc n) teller = ap (λ xs. f teller ∷ xs) (replicate-map f n teller)

pub initial_sound : (network : Network) → IsWellFormed network → (tellers : ℕ) → IsSound network (initial_state network tellers)
unfolding initial_state teller_at least_or_none settled_by pruned_bounds
initial_sound network formed tellers =
    let first : Teller = record { seen = network.cycle + 1; posted = network.cycle + 1 } in
    let each = λ (k : ℕ) (below : k < length (replicate tellers first)). get_or-replicate tellers k first none (omega (arith, length-replicate tellers first)) in
    record {
      counted = All-nil (λ (s : Settlement). s.teller < length (replicate tellers first));
      legal = legal_nil network;
      covers = legal_covers network formed [] (legal_nil network);
      word_least = sym (ap (fold min (network.cycle + 1)) (replicate-map (λ (t : Teller). t.posted) tellers first) ∙ fold-min-replicate (network.cycle + 1) tellers);
      posted_solved = λ k below. inl (ap (λ (t : Teller). t.posted) (each k below));
      word_seen = λ k below. let is = ap (λ (t : Teller). t.seen) (each k below) in omega (arith, is);
      pruned_seen = λ k below. All-nil (λ bound. beyond network (get_or (replicate tellers first) k none).seen ≤ bound);
    }
