-- Numbers put among others, one at a time.
use Rattle.std.proofs.Common.{◌≡◌, ℕ, ◌+◌, ◌≤◌, ◌<◌, zero, suc, ℤ, pos, true, false, Bool, List, [], ◌∷◌, ◌++◌, length, map, take, drop, get_or, fold, filter, flat_map, refl, sym, ap, ◌∙◌, arith}
use Rattle.std.specs.Prelude.{◌&&◌, ◌+ℤ◌, ◌-ℤ◌, ◌≤ℤ◌, ◌<ℤ◌, int_lt}
use Rattle.std.proofs.lemmas.Bool.{cond-true, cond-false, and_from}
use Rattle.std.proofs.lemmas.Int.{ints}
use Rattle.std.proofs.lemmas.List.{take_all, take_more, map-append}
use Rattle.std.proofs.lemmas.List.Elements.{filter-append}
use Rattle.std.proofs.lemmas.List.Sums.{fold-append}
use Rattle.tsn_model.specs.Network.{Network, period_of}
use Rattle.tsn_model.specs.Timing.{shifts}
use Rattle.tsn_model.specs.Arcs.{put_in, may_meet, differences, lags_of}

pub int_lt-from : (a b : ℤ) → a <ℤ b → int_lt a b ≡ true
int_lt-from a b less = grind (arith, ints)

int_lt-not : (a b : ℤ) → b ≤ℤ a → int_lt a b ≡ false
int_lt-not a b not_less = grind (arith, ints)

-- the first numbers are less
abbrev pub AreLess : List ℤ → ℤ → ℕ → Type 0
AreLess ys x n = (k : ℕ) → k < n → get_or ys k (pos 0) <ℤ x

pub put_in-new : (ys : List ℤ) (x : ℤ) (place : ℕ) → place ≤ length ys → AreLess ys x place → (place < length ys → x <ℤ get_or ys place (pos 0))
    → put_in ys x ≡ take place ys ++ x ∷ drop place ys
unfolding put_in
put_in-new [] x zero within less stops = refl
put_in-new [] x (suc place) within less stops = absurd (omega arith)
put_in-new (y ∷ ys) x zero within less stops = cond-true (int_lt x y) _ _ (int_lt-from x y (stops (omega arith)))
put_in-new (y ∷ ys) x (suc place) within less stops =
    let before : y <ℤ x = less 0 (omega arith) in
    cond-false (int_lt x y) _ _ (int_lt-not x y (omega (arith, ints, before)))
    ∙ cond-true (int_lt y x) _ _ (int_lt-from y x before)
    ∙ ap (λ zs. y ∷ zs) (put_in-new ys x place (omega arith) (λ k below. less (suc k) (omega arith)) (λ below. stops (omega arith)))

pub put_in-old : (ys : List ℤ) (x : ℤ) (place : ℕ) → place < length ys → AreLess ys x place → get_or ys place (pos 0) ≡ x → put_in ys x ≡ ys
unfolding put_in
put_in-old [] x place within less same = absurd (omega arith)
put_in-old (y ∷ ys) x zero within less same =
    let is : y ≡ x = same in
    cond-false (int_lt x y) _ _ (int_lt-not x y (omega (arith, ints, is))) ∙ cond-false (int_lt y x) _ _ (int_lt-not y x (omega (arith, ints, is)))
put_in-old (y ∷ ys) x (suc place) within less same =
    let before : y <ℤ x = less 0 (omega arith) in
    cond-false (int_lt x y) _ _ (int_lt-not x y (omega (arith, ints, before)))
    ∙ cond-true (int_lt y x) _ _ (int_lt-from y x before)
    ∙ ap (λ zs. y ∷ zs) (put_in-old ys x place (omega arith) (λ k below. less (suc k) (omega arith)) same)

module _ (network : Network) (i j : ℕ) where
  -- how much later than a shift a frame comes
  abbrev pub later : ℕ → ℕ → ℤ
  later first second = pos second -ℤ pos first

  -- the numbers for the first n frames of stream j that may meet, put in
  abbrev pub after_first : List ℤ → ℕ → ℕ → List ℤ
  after_first old first n = fold put_in old (filter (may_meet network i j) (map (later first) (take n (shifts network j))))

  after_more : (old : List ℤ) (first n second : ℕ) → n < length (shifts network j) → second ≡ get_or (shifts network j) n second
      → after_first old first (n + 1) ≡ fold put_in (after_first old first n) (filter (may_meet network i j) (later first second ∷ []))
  after_more old first n second inside is =
      ap (λ xs. fold put_in old (filter (may_meet network i j) (map (later first) xs)))
      (take_more (shifts network j) n second inside ∙ ap (λ s. take n (shifts network j) ++ s ∷ []) (sym is))
      ∙ ap (λ xs. fold put_in old (filter (may_meet network i j) xs)) (map-append (later first) (take n (shifts network j)) (second ∷ []))
      ∙ ap (fold put_in old) (filter-append (may_meet network i j) (map (later first) (take n (shifts network j))) (later first second ∷ []))
      ∙ fold-append put_in old (filter (may_meet network i j) (map (later first) (take n (shifts network j))))
      (filter (may_meet network i j) (later first second ∷ []))

  pub after_taken : (old : List ℤ) (first n second : ℕ) → n < length (shifts network j) → second ≡ get_or (shifts network j) n second
      → may_meet network i j (later first second) ≡ true
      → after_first old first (n + 1) ≡ put_in (after_first old first n) (later first second)
  after_taken old first n second inside is meet = cc (after_more old first n second inside is, cond-true (may_meet network i j (later first second)) _ _ meet)

  pub after_left : (old : List ℤ) (first n second : ℕ) → n < length (shifts network j) → second ≡ get_or (shifts network j) n second
      → may_meet network i j (later first second) ≡ false
      → after_first old first (n + 1) ≡ after_first old first n
  after_left old first n second inside is apart =
      after_more old first n second inside is ∙ ap (fold put_in (after_first old first n)) (cond-false (may_meet network i j (later first second)) _ _ apart)

  -- the same after all frames of stream j, and after the first n frames of stream i
  abbrev pub after_all : ℕ → List ℤ
  after_all first = map (later first) (shifts network j)

  abbrev pub lags_first : ℕ → List ℤ
  lags_first n = fold put_in [] (filter (may_meet network i j) (flat_map after_all (take n (shifts network i))))

  lags_all : fold put_in [] (filter (may_meet network i j) (flat_map after_all (shifts network i))) ≡ lags_of network i j
  unfolding lags_of differences
  lags_all = refl

  pub lags_done : (n : ℕ) → length (shifts network i) ≤ n → lags_first n ≡ lags_of network i j
  lags_done n past = ap (λ xs. fold put_in [] (filter (may_meet network i j) (flat_map after_all xs))) (take_all n (shifts network i) past) ∙ lags_all

  -- ---- whether they may meet, by the two periods

  pub may_meet-from : (lag : ℤ) → lag <ℤ pos (period_of network i) → pos 0 <ℤ (lag +ℤ pos (period_of network j)) → may_meet network i j lag ≡ true
  unfolding may_meet
  may_meet-from lag not_after not_before = and_from _ _ (int_lt-from _ _ not_after) (int_lt-from _ _ not_before)

  pub late_apart : (lag : ℤ) → pos (period_of network i) ≤ℤ lag → may_meet network i j lag ≡ false
  unfolding may_meet
  late_apart lag late = ap (λ b. b && int_lt (pos 0) (lag +ℤ pos (period_of network j))) (int_lt-not lag (pos (period_of network i)) late)

  and_false : (b : Bool) → (b && false) ≡ false
  and_false true = refl
  and_false false = refl

  pub early_apart : (lag : ℤ) → (lag +ℤ pos (period_of network j)) ≤ℤ pos 0 → may_meet network i j lag ≡ false
  unfolding may_meet
  early_apart lag early = ap (λ b. int_lt lag (pos (period_of network i)) && b) (int_lt-not (pos 0) (lag +ℤ pos (period_of network j)) early) ∙ and_false _
