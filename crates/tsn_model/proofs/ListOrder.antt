-- Lists of offsets in their order.
use Rattle.std.proofs.Common.{◌≡◌, ℕ, zero, suc, ◌≤◌, ◌<◌, ◌⊎◌, List, [], ◌∷◌, take, length, fold, All, Contains, true, ◌&&◌, refl, sym, ap, ◌∙◌, subst, arith, inl, inr}
use Rattle.std.specs.Prelude.{nat_lt, nat_eq, slice_index, MatchOption}
use Rattle.std.proofs.lemmas.Bool.{cases_Bool, cases_lt, or_cases, or_left, or_right, and_parts, and_from, ltb-true, lt-ltb, eqb-true, eq-eqb, cond-true, cond-false, both_ways}
use Rattle.std.proofs.lemmas.List.{ext_get_or, get_or-take, length-take-le}
use Rattle.std.proofs.lemmas.List.Elements.{All-nil, All-cons, All-head, All-tail}
use Rattle.tsn_model.specs.Schedule.{offset_of, ComesBefore, IsNotAfter, comes_before, earlier, first_of}
use Rattle.tsn_model.proofs.Lists.{Contains-head, Contains-more, Contains-cons_cases}

-- ---- by places

-- two lists that have the same first numbers begin the same
pub take-same : (xs ys : List ℕ) (k : ℕ) → k ≤ length xs → k ≤ length ys → ((i : ℕ) → i < k → offset_of xs i ≡ offset_of ys i) → take k xs ≡ take k ys
take-same xs ys k in_first in_second same =
    let first = length-take-le k xs in_first in
    let second = length-take-le k ys in_second in
    ext_get_or 0 (take k xs) (take k ys) (first ∙ sym second)
    (λ i below.
    let low : i < k = omega (arith, first, below) in
    get_or-take k xs i 0 low ∙ (same i low ∙ sym (get_or-take k ys i 0 low)))

-- the first list comes before the second where it is less at a place, and the same at those before it
pub before_at : (xs ys : List ℕ) (k : ℕ) → k < length xs → k < length ys → ((i : ℕ) → i < k → offset_of xs i ≡ offset_of ys i)
    → offset_of xs k < offset_of ys k → ComesBefore xs ys
before_at xs ys k in_first in_second same less = (k, in_first, in_second, take-same xs ys k (omega arith) (omega arith) same, less)

-- before the first place where they differ they are the same
pub before_same : (xs ys : List ℕ) (before : ComesBefore xs ys) (i : ℕ) → i < before.0 → offset_of xs i ≡ offset_of ys i
before_same xs ys before i below =
    sym (get_or-take before.0 xs i 0 below) ∙ (ap (λ zs. offset_of zs i) before.3 ∙ get_or-take before.0 ys i 0 below)

pub before_one_way : (xs ys : List ℕ) → ComesBefore xs ys → ComesBefore ys xs → ⊥
before_one_way xs ys first second =
    let one = first.4 in
    let two = second.4 in
    elim (cases_lt first.0 second.0) [
      | inl sooner ↦ let same = before_same ys xs second first.0 sooner in omega (arith, one, same)
      | inr not_sooner ↦ elim (cases_lt second.0 first.0) [
        | inl later ↦ let same = before_same xs ys first second.0 later in omega (arith, two, same)
        | inr not_later ↦ at_once first.0 second.0 (omega arith) one two
      ]
    ]
  where
    at_once : (j k : ℕ) → j ≡ k → offset_of xs j < offset_of ys j → offset_of ys k < offset_of xs k → ⊥
    at_once j k is one two = let three : offset_of ys j < offset_of xs j = subst (λ i. offset_of ys i < offset_of xs i) (sym is) two in omega arith

pub before_then : (xs ys zs : List ℕ) → ComesBefore xs ys → ComesBefore ys zs → ComesBefore xs zs
before_then xs ys zs first second =
    let one = first.4 in
    let two = second.4 in
    let in_xs = first.1 in
    let in_zs = second.2 in
    elim (cases_lt first.0 second.0) [
      | inl sooner ↦
          let same = before_same ys zs second first.0 sooner in
          before_at xs zs first.0 in_xs (omega arith)
          (λ i below. before_same xs ys first i below ∙ before_same ys zs second i (omega arith)) (omega (arith, one, same))
      | inr not_sooner ↦ elim (cases_lt second.0 first.0) [
        | inl later ↦
            let same = before_same xs ys first second.0 later in
            before_at xs zs second.0 (omega arith) in_zs
            (λ i below. before_same xs ys first i (omega arith) ∙ before_same ys zs second i below) (omega (arith, two, same))
        | inr not_later ↦
            let is : second.0 ≡ first.0 = omega arith in
            let three : offset_of ys first.0 < offset_of zs first.0 = subst (λ i. offset_of ys i < offset_of zs i) is two in
            before_at xs zs first.0 in_xs (omega arith)
            (λ i below. before_same xs ys first i below ∙ before_same ys zs second i (omega arith)) (omega arith)
      ]
    ]

pub not_after_then : (xs ys zs : List ℕ) → IsNotAfter xs ys → IsNotAfter ys zs → IsNotAfter xs zs
not_after_then xs ys zs (inl is) second = subst (λ list. IsNotAfter list zs) (sym is) second
not_after_then xs ys zs (inr first) (inl is) = inr (subst (ComesBefore xs) is first)
not_after_then xs ys zs (inr first) (inr second) = inr (before_then xs ys zs first second)

-- ---- by heads and tails

before_more : (x y : ℕ) (xs ys : List ℕ) → x ≡ y → ComesBefore xs ys → ComesBefore (x ∷ xs) (y ∷ ys)
before_more x y xs ys same before =
    (suc before.0, omega arith, omega arith, (λ i. same i ∷ before.3 i), before.4)

heads_of : (x y : ℕ) (xs ys : List ℕ) → x ∷ xs ≡ y ∷ ys → (x ≡ y) × (xs ≡ ys)
heads_of x y xs ys same = (cc, cc)

pub before_parts : (x y : ℕ) (xs ys : List ℕ) (k : ℕ) → k < length (x ∷ xs) → k < length (y ∷ ys) → take k (x ∷ xs) ≡ take k (y ∷ ys)
    → slice_index (x ∷ xs) k < slice_index (y ∷ ys) k
    → (x < y) ⊎ ((x ≡ y) × ComesBefore xs ys)
before_parts x y xs ys zero in_first in_second same less = inl less
before_parts x y xs ys (suc k) in_first in_second same less =
    let parts = heads_of x y (take k xs) (take k ys) same in
    inr (parts.0, (k, omega arith, omega arith, parts.1, less))

pub comes_before-true : (xs ys : List ℕ) → comes_before xs ys ≡ true → ComesBefore xs ys
unfolding comes_before
comes_before-true [] ys known = cc
comes_before-true (x ∷ xs) [] known = cc
comes_before-true (x ∷ xs) (y ∷ ys) known =
    elim (or_cases (nat_lt x y) (nat_eq x y && comes_before xs ys) known) [
      | inl less ↦ (0, omega arith, omega arith, refl, ltb-true x y less)
      | inr rest ↦
          let parts = and_parts (nat_eq x y) (comes_before xs ys) rest in
          before_more x y xs ys (eqb-true x y parts.0) (comes_before-true xs ys parts.1)
    ]

pub before_is_true : (xs ys : List ℕ) → ComesBefore xs ys → comes_before xs ys ≡ true
unfolding comes_before
before_is_true [] ys before = absurd (omega arith)
before_is_true (x ∷ xs) [] before = absurd (omega arith)
before_is_true (x ∷ xs) (y ∷ ys) before =
    elim (before_parts x y xs ys before.0 before.1 before.2 before.3 before.4) [
      | inl less ↦ or_left (nat_lt x y) (nat_eq x y && comes_before xs ys) (lt-ltb x y less)
      | inr rest ↦ or_right (nat_lt x y) (nat_eq x y && comes_before xs ys)
          (and_from (nat_eq x y) (comes_before xs ys) (eq-eqb x y rest.0) (before_is_true xs ys rest.1))
    ]

-- of two different lists of one length one comes before the other
pub ordered : (xs ys : List ℕ) → length xs ≡ length ys → (xs ≡ ys) ⊎ ComesBefore xs ys ⊎ ComesBefore ys xs
ordered [] [] long = inl refl
ordered [] (y ∷ ys) long = absurd (omega arith)
ordered (x ∷ xs) [] long = absurd (omega arith)
ordered (x ∷ xs) (y ∷ ys) long =
    elim (cases_lt x y) [
      | inl less ↦ inr (inl (0, omega arith, omega arith, refl, less))
      | inr not_less ↦ elim (cases_lt y x) [
        | inl greater ↦ inr (inr (0, omega arith, omega arith, refl, greater))
        | inr not_greater ↦
            let is : x ≡ y = omega arith in
            elim (ordered xs ys (omega arith)) [
              | inl same ↦ inl (λ i. is i ∷ same i)
              | inr (inl before) ↦ inr (inl (before_more x y xs ys is before))
              | inr (inr after) ↦ inr (inr (before_more y x ys xs (sym is) after))
            ]
      ]
    ]

-- ---- the first of some lists

-- one of the two, and after neither
pub earlier_of : (xs ys : List ℕ) → (ComesBefore ys xs × (earlier xs ys ≡ ys)) ⊎ ((ComesBefore ys xs → ⊥) × (earlier xs ys ≡ xs))
unfolding earlier
earlier_of xs ys =
    elim (cases_Bool (comes_before ys xs)) [
      | inl is_before ↦ inl (comes_before-true ys xs is_before, cond-true (comes_before ys xs) ys xs is_before)
      | inr is_not ↦ inr ((λ before. both_ways (comes_before ys xs) is_not (before_is_true ys xs before)), cond-false (comes_before ys xs) ys xs is_not)
    ]

pub earlier_first : (xs ys : List ℕ) → length xs ≡ length ys
    → IsNotAfter (earlier xs ys) xs × IsNotAfter (earlier xs ys) ys × (length (earlier xs ys) ≡ length xs)
earlier_first xs ys long =
    elim (earlier_of xs ys) [
      | inl second ↦ (
        inr (subst (λ list. ComesBefore list xs) (sym second.1) second.0),
        inl second.1,
        ap length second.1 ∙ sym long,
      )
      | inr first ↦ (
        inl first.1,
        subst (λ list. IsNotAfter list ys) (sym first.1) (elim (ordered xs ys long) [
          | inl same ↦ inl same
          | inr (inl before) ↦ inr before
          | inr (inr after) ↦ absurd (first.0 after)
        ]),
        ap length first.1,
      )
    ]

fold_first : (count : ℕ) (xs : List ℕ) (lists : List (List ℕ)) → length xs ≡ count → All (λ ys. length ys ≡ count) lists
    → IsNotAfter (fold earlier xs lists) xs × All (IsNotAfter (fold earlier xs lists)) lists
fold_first count xs [] long all = (inl refl, All-nil (IsNotAfter xs))
fold_first count xs (ys ∷ lists) long all =
    let long_too : length ys ≡ count = All-head (λ zs. length zs ≡ count) ys lists all in
    let step = earlier_first xs ys (long ∙ sym long_too) in
    let rest = fold_first count (earlier xs ys) lists (step.2 ∙ long) (All-tail (λ zs. length zs ≡ count) ys lists all) in
    let first : List ℕ = fold earlier (earlier xs ys) lists in (
      not_after_then first (earlier xs ys) xs rest.0 step.0,
      All-cons (IsNotAfter first) ys lists (not_after_then first (earlier xs ys) ys rest.0 step.1) rest.1,
    )

fold_among : (xs : List ℕ) (lists : List (List ℕ)) → Contains (xs ∷ lists) (fold earlier xs lists)
fold_among xs [] = Contains-head xs []
fold_among xs (ys ∷ lists) =
    elim (earlier_of xs ys) [
      | inl second ↦ subst (λ list. Contains (xs ∷ ys ∷ lists) (fold earlier list lists)) (sym second.1)
          (Contains-more xs (ys ∷ lists) (fold earlier ys lists) (fold_among ys lists))
      | inr first ↦ subst (λ list. Contains (xs ∷ ys ∷ lists) (fold earlier list lists)) (sym first.1) (between (fold_among xs lists))
    ]
  where
    between : Contains (xs ∷ lists) (fold earlier xs lists) → Contains (xs ∷ ys ∷ lists) (fold earlier xs lists)
    between found =
        elim (Contains-cons_cases xs lists (fold earlier xs lists) found) [
          | inl is ↦ subst (Contains (xs ∷ ys ∷ lists)) is (Contains-head xs (ys ∷ lists))
          | inr later ↦ Contains-more xs (ys ∷ lists) (fold earlier xs lists) (Contains-more ys lists (fold earlier xs lists) later)
        ]

pub firsts_first : (count : ℕ) (lists : List (List ℕ)) → All (λ xs. length xs ≡ count) lists
    → MatchOption (first_of lists) (lists ≡ []) (λ first. Contains lists first × All (IsNotAfter first) lists)
unfolding first_of
firsts_first count [] all = refl
firsts_first count (xs ∷ lists) all =
    let first = fold_first count xs lists (All-head (λ zs. length zs ≡ count) xs lists all) (All-tail (λ zs. length zs ≡ count) xs lists all) in
    (fold_among xs lists, All-cons (IsNotAfter (fold earlier xs lists)) xs lists first.0 first.1)
