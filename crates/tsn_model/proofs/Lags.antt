-- The list of lags of two streams: which numbers it has, and their order.
use Rattle.std.proofs.Common.{◌≡◌, ℕ, ℤ, pos, ◌-ℤ◌, ◌<ℤ◌, ◌≤ℤ◌, ◌⊎◌, true, false, List, [], ◌∷◌, map, fold, All, AllPairs, Contains, flat_map, sym, subst, arith, inl, inr}
use Rattle.std.specs.Prelude.{int_lt, if◌then◌else◌}
use Rattle.std.proofs.lemmas.Bool.{and_parts, and_from, cond_both}
use Rattle.std.proofs.lemmas.Int.{ints}
use Rattle.std.proofs.lemmas.List.Elements.{All-nil, All-cons, All-head, All-tail}
use Rattle.std.proofs.lemmas.List.Kept.{AllPairs-cons}
use Rattle.tsn_model.specs.Network.{Network}
use Rattle.tsn_model.specs.Timing.{shifts}
use Rattle.tsn_model.specs.Schedule.{IsLag}
use Rattle.tsn_model.specs.Arcs.{put_in, may_meet, differences, lags_of}
use Rattle.tsn_model.proofs.Lists.{AllPairs-head, AllPairs-tail, Contains-head, Contains-more, Contains-cons_cases, Contains-nil, Contains-map, from_map, Contains-flat_map, from_flat_map, Contains-filter, from_filter}

int_lt-from : (a b : ℤ) → a <ℤ b → int_lt a b ≡ true
int_lt-from a b less = grind (arith, ints)

int_lt-true : (a b : ℤ) → int_lt a b ≡ true → a <ℤ b
int_lt-true a b less = grind (arith, ints)

int_lt-false : (a b : ℤ) → int_lt a b ≡ false → b ≤ℤ a
int_lt-false a b not_less = grind (arith, ints)

-- ---- one number more

put_in-has : (ys : List ℤ) (x : ℤ) → Contains (put_in ys x) x
unfolding put_in
put_in-has [] x = Contains-head x []
put_in-has (y ∷ ys) x =
    cond_both (int_lt x y) (x ∷ y ∷ ys) (if int_lt y x then y ∷ put_in ys x else y ∷ ys) (λ zs. Contains zs x)
    (λ less. Contains-head x (y ∷ ys))
    (λ not_less. cond_both (int_lt y x) (y ∷ put_in ys x) (y ∷ ys) (λ zs. Contains zs x)
    (λ more. Contains-more y (put_in ys x) x (put_in-has ys x))
    (λ not_more.
    let low = int_lt-false x y not_less in
    let high = int_lt-false y x not_more in
    let same : y ≡ x = omega (arith, ints, low, high) in
    subst (Contains (y ∷ ys)) same (Contains-head y ys)))

put_in-keeps : (ys : List ℤ) (x z : ℤ) → Contains ys z → Contains (put_in ys x) z
unfolding put_in
put_in-keeps [] x z has = absurd (Contains-nil z has)
put_in-keeps (y ∷ ys) x z has =
    cond_both (int_lt x y) (x ∷ y ∷ ys) (if int_lt y x then y ∷ put_in ys x else y ∷ ys) (λ zs. Contains zs z)
    (λ less. Contains-more x (y ∷ ys) z has)
    (λ not_less. cond_both (int_lt y x) (y ∷ put_in ys x) (y ∷ ys) (λ zs. Contains zs z)
    (λ more. elim (Contains-cons_cases y ys z has) [
      | inl same ↦ subst (Contains (y ∷ put_in ys x)) same (Contains-head y (put_in ys x))
      | inr later ↦ Contains-more y (put_in ys x) z (put_in-keeps ys x z later)
    ])
    (λ not_more. has))

put_in-from : (ys : List ℤ) (x z : ℤ) → Contains (put_in ys x) z → (x ≡ z) ⊎ Contains ys z
unfolding put_in
put_in-from [] x z has = elim (Contains-cons_cases x [] z has) [ inl same ↦ inl same | inr none ↦ inr none ]
put_in-from (y ∷ ys) x z has =
    cond_both (int_lt x y) (x ∷ y ∷ ys) (if int_lt y x then y ∷ put_in ys x else y ∷ ys) (λ zs. Contains zs z → (x ≡ z) ⊎ Contains (y ∷ ys) z)
    (λ less in_list. Contains-cons_cases x (y ∷ ys) z in_list)
    (λ not_less. cond_both (int_lt y x) (y ∷ put_in ys x) (y ∷ ys) (λ zs. Contains zs z → (x ≡ z) ⊎ Contains (y ∷ ys) z)
    (λ more in_list. elim (Contains-cons_cases y (put_in ys x) z in_list) [
      | inl same ↦ inr (subst (Contains (y ∷ ys)) same (Contains-head y ys))
      | inr later ↦ elim (put_in-from ys x z later) [ inl same ↦ inl same | inr old ↦ inr (Contains-more y ys z old) ]
    ])
    (λ not_more in_list. inr in_list)) has

-- what is above a number and is put in leaves all above it
put_in-above : (low : ℤ) (ys : List ℤ) (x : ℤ) → low <ℤ x → All (λ y. low <ℤ y) ys → All (λ y. low <ℤ y) (put_in ys x)
unfolding put_in
put_in-above low [] x above all = All-cons (λ y. low <ℤ y) x [] above (All-nil (λ y. low <ℤ y))
put_in-above low (y ∷ ys) x above all =
    cond_both (int_lt x y) (x ∷ y ∷ ys) (if int_lt y x then y ∷ put_in ys x else y ∷ ys) (All (λ z. low <ℤ z))
    (λ less. All-cons (λ z. low <ℤ z) x (y ∷ ys) above all)
    (λ not_less. cond_both (int_lt y x) (y ∷ put_in ys x) (y ∷ ys) (All (λ z. low <ℤ z))
    (λ more. All-cons (λ z. low <ℤ z) y (put_in ys x) (All-head (λ z. low <ℤ z) y ys all) (put_in-above low ys x above (All-tail (λ z. low <ℤ z) y ys all)))
    (λ not_more. all))

put_in-ascends : (ys : List ℤ) (x : ℤ) → AllPairs ◌<ℤ◌ ys → AllPairs ◌<ℤ◌ (put_in ys x)
unfolding put_in
put_in-ascends [] x ascend = AllPairs-cons ◌<ℤ◌ x [] (All-nil (λ y. x <ℤ y)) ascend
put_in-ascends (y ∷ ys) x ascend =
    let above : All (λ z. y <ℤ z) ys = AllPairs-head ◌<ℤ◌ y ys ascend in
    cond_both (int_lt x y) (x ∷ y ∷ ys) (if int_lt y x then y ∷ put_in ys x else y ∷ ys) (AllPairs ◌<ℤ◌)
    (λ less.
    let first : x <ℤ y = int_lt-true x y less in
    AllPairs-cons ◌<ℤ◌ x (y ∷ ys) (All-cons (λ z. x <ℤ z) y ys first (λ k d below. let after = above k d below in omega (arith, ints, first, after))) ascend)
    (λ not_less. cond_both (int_lt y x) (y ∷ put_in ys x) (y ∷ ys) (AllPairs ◌<ℤ◌)
    (λ more. AllPairs-cons ◌<ℤ◌ y (put_in ys x) (put_in-above y ys x (int_lt-true y x more) above) (put_in-ascends ys x (AllPairs-tail ◌<ℤ◌ y ys ascend)))
    (λ not_more. ascend))

-- ---- all of them

all_in-keeps : (xs ys : List ℤ) (z : ℤ) → Contains ys z → Contains (fold put_in ys xs) z
all_in-keeps [] ys z has = has
all_in-keeps (x ∷ xs) ys z has = all_in-keeps xs (put_in ys x) z (put_in-keeps ys x z has)

all_in-has : (xs ys : List ℤ) (z : ℤ) → Contains xs z → Contains (fold put_in ys xs) z
all_in-has [] ys z has = absurd (Contains-nil z has)
all_in-has (x ∷ xs) ys z has = elim (Contains-cons_cases x xs z has) [
  | inl same ↦ all_in-keeps xs (put_in ys x) z (subst (Contains (put_in ys x)) same (put_in-has ys x))
  | inr later ↦ all_in-has xs (put_in ys x) z later
]

all_in-from : (xs ys : List ℤ) (z : ℤ) → Contains (fold put_in ys xs) z → Contains xs z ⊎ Contains ys z
all_in-from [] ys z has = inr has
all_in-from (x ∷ xs) ys z has = elim (all_in-from xs (put_in ys x) z has) [
  | inl later ↦ inl (Contains-more x xs z later)
  | inr put ↦ elim (put_in-from ys x z put) [ inl same ↦ inl (subst (Contains (x ∷ xs)) same (Contains-head x xs)) | inr old ↦ inr old ]
]

all_in-ascends : (xs ys : List ℤ) → AllPairs ◌<ℤ◌ ys → AllPairs ◌<ℤ◌ (fold put_in ys xs)
all_in-ascends [] ys ascend = ascend
all_in-ascends (x ∷ xs) ys ascend = all_in-ascends xs (put_in ys x) (put_in-ascends ys x ascend)

-- ---- lags

module _ (network : Network) (i j : ℕ) where
  abbrev after : ℕ → List ℤ
  after first = map (λ second. pos second -ℤ pos first) (shifts network j)

  pub lag_listed : (lag : ℤ) → IsLag network i j lag → Contains (lags_of network i j) lag
  unfolding lags_of differences may_meet
  lag_listed lag is =
      all_in-has (differences network i j) [] lag
      (Contains-filter (may_meet network i j) (flat_map after (shifts network i)) lag
      (Contains-flat_map after (shifts network i) is.first lag is.first_sent
      (subst (Contains (after is.first)) (sym is.is) (Contains-map (λ second. pos second -ℤ pos is.first) (shifts network j) is.second is.second_sent)))
      (and_from _ _ (int_lt-from _ _ is.not_after) (int_lt-from _ _ is.not_before)))

  pub listed_lag : (lag : ℤ) → Contains (lags_of network i j) lag → IsLag network i j lag
  unfolding lags_of differences may_meet
  listed_lag lag has = elim (all_in-from (differences network i j) [] lag has) [
    | inr none ↦ absurd (Contains-nil lag none)
    | inl among ↦
        let kept = from_filter (may_meet network i j) (flat_map after (shifts network i)) lag among in
        let first = from_flat_map after (shifts network i) lag kept.0 in
        let second = from_map (λ second. pos second -ℤ pos first.0) (shifts network j) lag first.2 in
        let near = and_parts _ _ kept.1 in
        record {
          first = first.0;
          second = second.0;
          first_sent = first.1;
          second_sent = second.1;
          is = sym second.2;
          not_after = int_lt-true _ _ near.0;
          not_before = int_lt-true _ _ near.1;
        }
  ]

  pub lags_ascend : AllPairs ◌<ℤ◌ (lags_of network i j)
  unfolding lags_of
  lags_ascend = all_in-ascends (differences network i j) [] (λ a b d order below. absurd (omega arith))
