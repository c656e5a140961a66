-- The first overlap of two streams' frames, hop by hop, and of all of them.
use Rattle.std.proofs.Common.{◌≡◌, length, All, ◌≤◌, ◌<◌, ◌+◌, ◌⊎◌, ℕ, ℤ, List, Option, Some, None, MatchOption, refl, sym, ap, subst, ◌∙◌, arith, inl, inr, ltb-true, ltb-false}
use Rattle.std.specs.Prelude.{nat_lt, if◌then◌else◌, ◌<ℤ◌}
use Rattle.std.proofs.lemmas.Bool.{cases_lt, cond_both}
use Rattle.std.proofs.lemmas.Int.{ints}
use Rattle.tsn_model.specs.declared.Triple.{Triple}
use Rattle.tsn_model.specs.Network.{Network, stream_count, hop_count, route_link}
use Rattle.tsn_model.specs.Schedule.{IsFirstOverlap, FitsPeriod}
use Rattle.tsn_model.specs.PlainWords.{IsOverlap}
use Rattle.tsn_timing.specs.Judgement.{IsOverlapOf, AreApartOn, IsLeastOverlap, ArePairApart, ComesFirst, IsFirstOverlapWith, HasNoOverlap, IsFirstOverlapOf}
use Rattle.std.proofs.lemmas.List.{get_or_default}
use Rattle.tsn_model.proofs.Routes.{use_of}
use Rattle.tsn_model.proofs.Shifts.{period-le-cycle}

module _ (network : Network) (offsets : List ℕ) (left right : ℕ) where
  -- the first overlap on the links of the first n hops of the left stream
  pub record IsFirstSoFar (n : ℕ) (triple : Triple) : Type 0 where
    pub same_left : triple.left ≡ left
    pub same_right : triple.right ≡ right
    pub overlap : IsOverlap network offsets triple
    pub first : (k : ℕ) (lag : ℤ) → k < n → IsOverlapOf network offsets left right (route_link network left k) lag
        → ComesFirst triple (route_link network left k) lag

  abbrev pub AreSoFar : ℕ → Option Triple → Type 0
  AreSoFar n None = (k : ℕ) → k < n → AreApartOn network offsets left right (route_link network left k)
  AreSoFar n (Some triple) = IsFirstSoFar n triple

  -- a link on which they overlap is that of some hop
  at_hop : (link : ℕ) (lag : ℤ) → IsOverlapOf network offsets left right link lag → (k : ℕ) × (k < hop_count network left) × (route_link network left k ≡ link)
  at_hop link lag overlap =
      let used = use_of network left link overlap.0.left_uses in
      (used.hop, used.counted, used.same_link)

  -- one hop more: on its link they are apart
  pub first_same : (n : ℕ) (first : Option Triple) → AreSoFar n first → AreApartOn network offsets left right (route_link network left n)
      → AreSoFar (n + 1) first
  first_same n None before apart = λ k below lag overlap. elim (cases_lt k n) [
    | inl less ↦ before k less lag overlap
    | inr at ↦
        let is : k ≡ n = omega arith in
        apart lag (subst (λ m. IsOverlapOf network offsets left right (route_link network left m) lag) is overlap)
  ]
  first_same n (Some triple) before apart = record {
    same_left = before.same_left;
    same_right = before.same_right;
    overlap = before.overlap;
    first = λ k lag below overlap. elim (cases_lt k n) [
      | inl less ↦ before.first k lag less overlap
      | inr at ↦
          let is : k ≡ n = omega arith in
          absurd (apart lag (subst (λ m. IsOverlapOf network offsets left right (route_link network left m) lag) is overlap))
    ];
  }

  abbrev pub of_link : ℕ → ℤ → Triple
  of_link link lag = record { left = left; right = right; link = link; lag = lag }

  -- what overlaps on the link of the new hop comes no sooner than its least overlap
  least_there : (n : ℕ) (lag : ℤ) → IsLeastOverlap network offsets left right (route_link network left n) lag → (k : ℕ) (other : ℤ) → k ≡ n
      → IsOverlapOf network offsets left right (route_link network left k) other → ComesFirst (of_link (route_link network left n) lag)
      (route_link network left k) other
  least_there n lag found k other is overlap =
      inr (ap (route_link network left) (sym is), found.least other (subst (λ m. IsOverlapOf network offsets left right (route_link network left m) other) is overlap))

  old_first : (n : ℕ) (old : Triple) (lag : ℤ) → IsFirstSoFar n old → old.link < route_link network left n → IsFirstSoFar (n + 1) old
  old_first n old lag before less = record {
    same_left = before.same_left;
    same_right = before.same_right;
    overlap = before.overlap;
    first = λ k other below overlap. elim (cases_lt k n) [
      | inl earlier ↦ before.first k other earlier overlap
      | inr at ↦
          let same : route_link network left k ≡ route_link network left n = ap (route_link network left) (omega arith) in
          inl (omega arith)
    ];
  }

  new_first : (n : ℕ) (old : Triple) (lag : ℤ) → IsFirstSoFar n old → IsLeastOverlap network offsets left right (route_link network left n) lag
      → route_link network left n ≤ old.link
      → IsFirstSoFar (n + 1) (of_link (route_link network left n) lag)
  new_first n old lag before found within = record {
    same_left = refl;
    same_right = refl;
    overlap = found.overlap;
    first = λ k other below overlap. elim (cases_lt k n) [
      | inr at ↦ least_there n lag found k other (omega arith) overlap
      | inl earlier ↦ elim (cases_lt (route_link network left n) (route_link network left k)) [
        | inl less ↦ inl less
        | inr not_less ↦ elim (before.first k other earlier overlap) [
          | inl above ↦ absurd (omega arith)
          | inr at ↦
              let same : route_link network left k ≡ route_link network left n = omega arith in
              inr (sym same, found.least other (subst (λ l. IsOverlapOf network offsets left right l other) same overlap))
        ]
      ]
    ];
  }

  -- one hop more: on its link they overlap
  pub first_one : (n : ℕ) (first : Option Triple) (lag : ℤ) (triple : Triple) → AreSoFar n first
      → IsLeastOverlap network offsets left right (route_link network left n) lag
      → MatchOption first (triple ≡ of_link (route_link network left n) lag)
      (λ other. triple ≡ (if nat_lt other.link (route_link network left n) then other else of_link (route_link network left n) lag))
      → IsFirstSoFar (n + 1) triple
  first_one n None lag triple before found is = subst (IsFirstSoFar (n + 1)) (sym is) (record {
    same_left = refl;
    same_right = refl;
    overlap = found.overlap;
    first = λ k other below overlap. elim (cases_lt k n) [
      | inl less ↦ absurd (before k less other overlap)
      | inr at ↦ least_there n lag found k other (omega arith) overlap
    ];
  })
  first_one n (Some old) lag triple before found is = subst (IsFirstSoFar (n + 1)) (sym is) (
      cond_both (nat_lt old.link (route_link network left n)) old (of_link (route_link network left n) lag) (IsFirstSoFar (n + 1))
      (λ passes. old_first n old lag before (ltb-true _ _ passes))
      (λ fails. new_first n old lag before found (ltb-false _ _ fails)))

  -- the same of a link and a lag that are equal to those
  pub first_given : (n : ℕ) (first : Option Triple) (lag : ℤ) (link : ℕ) (kept : ℤ) (triple : Triple) → link ≡ route_link network left n → kept ≡ lag
      → AreSoFar n first
      → IsLeastOverlap network offsets left right (route_link network left n) lag
      → MatchOption first (triple ≡ of_link link kept) (λ other. triple ≡ (if nat_lt other.link link then other else of_link link kept)) → IsFirstSoFar
      (n + 1) triple
  first_given n first lag link kept triple link_is kept_is before found is =
      first_one n first lag triple before found
      (subst (λ l. MatchOption first (triple ≡ of_link l lag) (λ other. triple ≡ (if nat_lt other.link l then other else of_link l lag))) link_is
      (subst (λ z. MatchOption first (triple ≡ of_link link z) (λ other. triple ≡ (if nat_lt other.link link then other else of_link link z))) kept_is is))

  pub first_done : (n : ℕ) (first : Option Triple) → n ≡ hop_count network left → AreSoFar n first
      → MatchOption first (ArePairApart network offsets left right) (IsFirstOverlapWith network offsets left right)
  first_done n None is before = λ link lag overlap.
      let hop = at_hop link lag overlap in
      before hop.0 (omega arith) lag (subst (λ l. IsOverlapOf network offsets left right l lag) (sym hop.2) overlap)
  first_done n (Some triple) is before = record {
    same_left = before.same_left;
    same_right = before.same_right;
    overlap = before.overlap;
    first = λ link lag overlap.
        let hop = at_hop link lag overlap in
        rw (← hop.2) (before.first hop.0 lag (omega arith) (subst (λ l. IsOverlapOf network offsets left right l lag) (sym hop.2) overlap));
  }
  -- ---- pairs and triples, in order

module _ (network : Network) (offsets : List ℕ) where
  abbrev pub IsEarlier : Triple → ℕ → ℤ → Type 0
  IsEarlier triple link lag = (link < triple.link) ⊎ ((link ≡ triple.link) × (lag <ℤ triple.lag))

  not_earlier : (triple : Triple) (link : ℕ) (lag : ℤ) → ComesFirst triple link lag → IsEarlier triple link lag → ⊥
  not_earlier triple link lag first earlier = grind (arith, ints)

  abbrev Last : Triple → Triple → Type 0
  Last a b = ((a.left ≡ b.left) × (a.right ≡ b.right) × (a.link < b.link)) ⊎ ((a.left ≡ b.left) × (a.right ≡ b.right) × (a.link ≡ b.link) × (a.lag <ℤ b.lag))

  same_left_of : (a b : Triple) → Last a b → a.left ≡ b.left
  same_left_of a b last = elim last [ inl x ↦ x.0 | inr x ↦ x.0 ]

  same_right_of : (a b : Triple) → Last a b → a.right ≡ b.right
  same_right_of a b last = elim last [ inl x ↦ x.1 | inr x ↦ x.1 ]

  link_of : (a b : Triple) → Last a b → IsEarlier b a.link a.lag
  link_of a b last = elim last [ inl x ↦ inl x.2 | inr x ↦ inr (x.2, x.3) ]

  pub first_from : (left : ℕ) (triple : Triple) → ((i : ℕ) → i < left → HasNoOverlap network offsets i) → IsFirstOverlapOf network offsets left triple → IsFirstOverlap network offsets triple
  first_from left triple before first =
      let with' = first.first in
      let same = with'.same_left in record {
        conflict = with'.overlap.0;
        overlaps = with'.overlap.1;
        none_before = λ earlier order conflict overlaps.
            let overlap : IsOverlapOf network offsets earlier.left earlier.right earlier.link earlier.lag = (conflict, overlaps) in
            elim order [
              | inl less ↦ before earlier.left (omega arith) earlier.right earlier.link earlier.lag overlap
              | inr later ↦ elim later [
                | inl (is_left, less) ↦
                    first.apart_before earlier.right less earlier.link earlier.lag
                    (subst (λ i. IsOverlapOf network offsets i earlier.right earlier.link earlier.lag) (is_left ∙ same) overlap)
                | inr last ↦
                    let here = subst (λ i. IsOverlapOf network offsets i triple.right earlier.link earlier.lag) ((same_left_of earlier triple last) ∙ same)
                    (subst (λ j. IsOverlapOf network offsets earlier.left j earlier.link earlier.lag) (same_right_of earlier triple last) overlap) in
                    not_earlier triple earlier.link earlier.lag (with'.first earlier.link earlier.lag here) (link_of earlier triple last)
              ]
            ];
      }

  -- offsets that fit their periods are within the cycle
  pub fits_small : length offsets ≡ stream_count network → ((i : ℕ) → i < stream_count network → FitsPeriod network offsets i)
      → All (λ offset. offset ≤ network.cycle) offsets
  fits_small count fits k d inside = grind (arith, period-le-cycle, get_or_default)
