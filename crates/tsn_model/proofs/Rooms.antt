-- Of intervals that have no common instant, what lies between two instants that none straddles is a sum of some lengths.
use Rattle.std.proofs.Common.{subst, ◌≡◌, ℕ, zero, suc, ◌+◌, ◌-◌, ◌*◌, ◌≤◌, ◌⊎◌, min, List, [], ◌∷◌, get_or, sum_by, leb, cond, Bool, true, false, All, AllPairs, refl, sym, ap, ◌∙◌, arith, inl, inr}
use Rattle.std.specs.List.{filter}
use Rattle.std.proofs.lemmas.Bool.{cases_Bool, cond-true, cond-false, true≢false, le-leb}
use Rattle.std.proofs.lemmas.List.Sums.{sum_by-cons}
use Rattle.std.proofs.lemmas.List.Elements.{All-cons, All-head, All-tail, All-weaker, All-filter}
use Rattle.tsn_model.specs.Argument.{reaches, filled, wasted, inserted, arranged, staged}
use Rattle.tsn_model.proofs.Packing.{Within, part_below, one_added, part_grows, none_at_first, all_at_last}

-- ---- sums of some works

reaches-without : (work : ℕ × ℕ) (works : List (ℕ × ℕ)) (amount : ℕ) → reaches works amount ≡ true → reaches (work ∷ works) amount ≡ true
unfolding reaches
reaches-without work works amount h = cond-true (reaches works amount) true (cond (leb (work.0 + work.1) amount) (reaches works (amount - work.1)) false) h

reaches-with : (work : ℕ × ℕ) (works : List (ℕ × ℕ)) (amount : ℕ) → work.0 ≤ amount → reaches works amount ≡ true
    → reaches (work ∷ works) (work.1 + amount) ≡ true
unfolding reaches
reaches-with work works amount enough h =
    let same : work.1 + amount - work.1 ≡ amount = omega arith in
    let rest : reaches works (work.1 + amount - work.1) ≡ true = subst (λ n. reaches works n ≡ true) (sym same) h in
    let second : cond (leb (work.0 + work.1) (work.1 + amount)) (reaches works (work.1 + amount - work.1)) false ≡ true =
    cond-true (leb (work.0 + work.1) (work.1 + amount)) (reaches works (work.1 + amount - work.1)) false
    (le-leb (work.0 + work.1) (work.1 + amount) (omega arith)) ∙ rest in
    elim (cases_Bool (reaches works (work.1 + amount))) [
      | inl there ↦ cond-true (reaches works (work.1 + amount)) true
          (cond (leb (work.0 + work.1) (work.1 + amount)) (reaches works (work.1 + amount - work.1)) false) there
      | inr not_there ↦ cond-false (reaches works (work.1 + amount)) true
          (cond (leb (work.0 + work.1) (work.1 + amount)) (reaches works (work.1 + amount - work.1)) false) not_there ∙ second
    ]

pub filled-le : (works : List (ℕ × ℕ)) (room : ℕ) → filled works room ≤ room
unfolding filled
filled-le works zero = omega arith
filled-le works (suc room) =
    let rest = filled-le works room in
    elim (cases_Bool (reaches works (suc room))) [
      | inl there ↦ let is : filled works (suc room) ≡ suc room = cond-true (reaches works (suc room)) (suc room) (filled works room) there in omega arith
      | inr not_there ↦ let is : filled works (suc room) ≡ filled works room = cond-false (reaches works (suc room)) (suc room) (filled works room) not_there
          in omega arith
    ]

pub filled-ge : (works : List (ℕ × ℕ)) (amount room : ℕ) → reaches works amount ≡ true → amount ≤ room → amount ≤ filled works room
unfolding filled
filled-ge works amount zero h within = omega arith
filled-ge works amount (suc room) h within =
    elim (cases_Bool (reaches works (suc room))) [
      | inl there ↦ let is : filled works (suc room) ≡ suc room = cond-true (reaches works (suc room)) (suc room) (filled works room) there in omega arith
      | inr not_there ↦
          let is : filled works (suc room) ≡ filled works room = cond-false (reaches works (suc room)) (suc room) (filled works room) not_there in
          let other : amount ≡ suc room → ⊥ = λ same. true≢false (sym (subst (λ n. reaches works n ≡ true) same h) ∙ not_there) in
          let lower : amount ≤ room = grind (arith, other) in
          let rest = filled-ge works amount room h lower in
          omega arith
    ]

-- with what is wasted of it the room is no smaller than what is reached
wasted-le : (unit : ℕ) (works : List (ℕ × ℕ)) (amount room : ℕ) → reaches works amount ≡ true → amount ≤ room → wasted unit works room + amount ≤ room
unfolding wasted
wasted-le unit works amount room h within =
    let least_of = filled-le works room in
    let most = filled-ge works amount room h within in
    elim (cases_Bool (leb room (4096 * unit))) [
      | inl few ↦ let is : wasted unit works room ≡ room - filled works room = cond-true (leb room (4096 * unit)) (room - filled works room) 0 few in omega
          arith
      | inr many ↦ let is : wasted unit works room ≡ 0 = cond-false (leb room (4096 * unit)) (room - filled works room) 0 many in omega arith
    ]

-- ---- sums in stages

module _ {X : Type 0} where
  sum_by-inserted : (f key : X → ℕ) (x : X) (xs : List X) → sum_by f (inserted key x xs) ≡ f x + sum_by f xs
  unfolding inserted
  sum_by-inserted f key x [] = sum_by-cons f x []
  sum_by-inserted f key x (y ∷ ys) = elim (cases_Bool (leb (key y) (key x))) [
    | inl here ↦ ap (sum_by f) (cond-true (leb (key y) (key x)) (x ∷ y ∷ ys) (y ∷ inserted key x ys) here) ∙ sum_by-cons f x (y ∷ ys)
    | inr later ↦
        let is = ap (sum_by f) (cond-false (leb (key y) (key x)) (x ∷ y ∷ ys) (y ∷ inserted key x ys) later) in
        let first = sum_by-cons f y (inserted key x ys) in
        let whole = sum_by-cons f y ys in
        let rest = sum_by-inserted f key x ys in
        omega arith
  ]

  sum_by-arranged : (f key : X → ℕ) (xs : List X) → sum_by f (arranged key xs) ≡ sum_by f xs
  unfolding arranged
  sum_by-arranged f key [] = refl
  sum_by-arranged f key (x ∷ xs) =
      let put = sum_by-inserted f key x (arranged key xs) in
      let rest = sum_by-arranged f key xs in
      let whole = sum_by-cons f x xs in
      omega arith

  All-inserted : (P : X → Type 0) (key : X → ℕ) (x : X) (xs : List X) → P x → All P xs → All P (inserted key x xs)
  unfolding inserted
  All-inserted P key x [] here rest = All-cons P x [] here rest
  All-inserted P key x (y ∷ ys) here rest = elim (cases_Bool (leb (key y) (key x))) [
    | inl first ↦ subst (All P) (sym (cond-true (leb (key y) (key x)) (x ∷ y ∷ ys) (y ∷ inserted key x ys) first)) (All-cons P x (y ∷ ys) here rest)
    | inr later ↦ subst (All P) (sym (cond-false (leb (key y) (key x)) (x ∷ y ∷ ys) (y ∷ inserted key x ys) later))
        (All-cons P y (inserted key x ys) (All-head P y ys rest) (All-inserted P key x ys here (All-tail P y ys rest)))
  ]

  All-arranged : (P : X → Type 0) (key : X → ℕ) (xs : List X) → All P xs → All P (arranged key xs)
  unfolding arranged
  All-arranged P key [] h = h
  All-arranged P key (x ∷ xs) h = All-inserted P key x (arranged key xs) (All-head P x xs h) (All-arranged P key xs (All-tail P x xs h))

  -- of each element all counts or nothing; those whose keys are m or more have no more than the room after m
  pub record IsCounted (key work count : X → ℕ) (beyond : ℕ → X → ℕ) (room : ℕ) (x : X) : Type 0 where
    pub all_or_none : (count x ≡ 0) ⊎ ((count x ≡ work x) × (key x ≤ room))
    pub within : (m : ℕ) → m ≤ key x → count x ≤ beyond m x

  -- what counts is reached in stages: before is what counted of the elements with greater keys
  staged_on : (key work count : X → ℕ) (beyond : ℕ → X → ℕ) (room idle least before : ℕ) (xs : List X) → All (IsCounted key work count beyond room) xs
      → ((m : ℕ) → m ≤ least → m ≤ room → before + sum_by (beyond m) xs + m ≤ room)
      → room ≤ before + sum_by count xs + idle
      → reaches (staged key work idle least xs) (sum_by count xs) ≡ true
  unfolding reaches staged
  staged_on key work count beyond room idle least before [] are bound full = refl
  staged_on key work count beyond room idle least before (x ∷ xs) are bound full =
      let here = All-head (IsCounted key work count beyond room) x xs are in
      let sum = sum_by-cons count x xs in
      let bound_rest : (m : ℕ) → m ≤ min least (key x) → m ≤ room → (before + count x) + sum_by (beyond m) xs + m ≤ room = λ m low small.
      let sum_beyond = sum_by-cons (beyond m) x xs in
      let whole = bound m (omega arith) small in
      let one = here.within m (omega arith) in
      omega arith in
      let rest = staged_on key work count beyond room idle (min least (key x)) (before + count x) xs
      (All-tail (IsCounted key work count beyond room) x xs are) bound_rest (omega arith) in
      elim here.all_or_none [
        | inl none ↦
            let same : sum_by count xs ≡ sum_by count (x ∷ xs) = omega arith in
            subst (λ n. reaches ((min least (key x) - idle, work x) ∷ staged key work idle (min least (key x)) xs) n ≡ true) same
            (reaches-without (min least (key x) - idle, work x) (staged key work idle (min least (key x)) xs) (sum_by count xs) rest)
        | inr all ↦
            let is = all.0 in
            let near = all.1 in
            let enough = bound_rest (min least (key x)) (omega arith) (omega arith) in
            let same : work x + sum_by count xs ≡ sum_by count (x ∷ xs) = omega arith in
            subst (λ n. reaches ((min least (key x) - idle, work x) ∷ staged key work idle (min least (key x)) xs) n ≡ true) same
            (reaches-with (min least (key x) - idle, work x) (staged key work idle (min least (key x)) xs) (sum_by count xs) (omega arith) rest)
      ]

  sum_by-filter-le : (f : X → ℕ) (may : X → Bool) (xs : List X) → sum_by f (filter may xs) ≤ sum_by f xs
  sum_by-filter-le f may [] = omega arith
  sum_by-filter-le f may (x ∷ xs) =
      let rest = sum_by-filter-le f may xs in
      let whole = sum_by-cons f x xs in
      elim (cases_Bool (may x)) [
        | inl passes ↦
            let is = ap (sum_by f) (cond-true (may x) (x ∷ filter may xs) (filter may xs) passes) in
            let kept = sum_by-cons f x (filter may xs) in
            omega arith
        | inr fails ↦
            let is = ap (sum_by f) (cond-false (may x) (x ∷ filter may xs) (filter may xs) fails) in
            omega arith
      ]

  sum_by-filter-same : (f : X → ℕ) (may : X → Bool) (xs : List X) → All (λ x. may x ≡ false → f x ≡ 0) xs → sum_by f (filter may xs) ≡ sum_by f xs
  sum_by-filter-same f may [] h = refl
  sum_by-filter-same f may (x ∷ xs) h =
      let rest = sum_by-filter-same f may xs (All-tail (λ y. may y ≡ false → f y ≡ 0) x xs h) in
      let whole = sum_by-cons f x xs in
      elim (cases_Bool (may x)) [
        | inl passes ↦
            let is = ap (sum_by f) (cond-true (may x) (x ∷ filter may xs) (filter may xs) passes) in
            let kept = sum_by-cons f x (filter may xs) in
            omega arith
        | inr fails ↦
            let is = ap (sum_by f) (cond-false (may x) (x ∷ filter may xs) (filter may xs) fails) in
            let none = All-head (λ y. may y ≡ false → f y ≡ 0) x xs h fails in
            omega arith
      ]

  -- the same of those that pass a test, in the order of their keys, where none of the others counts
  pub staged_reached : (key work count : X → ℕ) (beyond : ℕ → X → ℕ) (room idle least : ℕ) (may : X → Bool) (xs : List X)
      → All (IsCounted key work count beyond room) xs → All (λ x. may x ≡ false → count x ≡ 0) xs
      → ((m : ℕ) → m ≤ room → sum_by (beyond m) xs + m ≤ room)
      → room ≤ sum_by count xs + idle
      → reaches (staged key work idle least (arranged key (filter may xs))) (sum_by count xs) ≡ true
  staged_reached key work count beyond room idle least may xs are others bound full =
      let same = sum_by-filter-same count may xs others in
      let order = sum_by-arranged count key (filter may xs) in
      let sum : sum_by count (arranged key (filter may xs)) ≡ sum_by count xs = omega arith in
      let bound_kept : (m : ℕ) → m ≤ least → m ≤ room → 0 + sum_by (beyond m) (arranged key (filter may xs)) + m ≤ room = λ m low small.
      let kept = sum_by-filter-le (beyond m) may xs in
      let put = sum_by-arranged (beyond m) key (filter may xs) in
      let whole = bound m small in
      omega arith in
      subst (λ n. reaches (staged key work idle least (arranged key (filter may xs))) n ≡ true) sum
      (staged_on key work count beyond room idle least 0 (arranged key (filter may xs))
      (All-arranged (IsCounted key work count beyond room) key (filter may xs) (All-filter may (IsCounted key work count beyond room) xs are)) bound_kept
      (omega arith))

-- ---- instants that no interval straddles

module _ {X : Type 0} (begin length_of : X → ℕ) where
  -- the interval ends by t, or begins at t or later
  abbrev pub IsClearOf : ℕ → X → Type 0
  IsClearOf t x = (begin x + length_of x ≤ t) ⊎ (t ≤ begin x)

  -- how much of the intervals lies below t
  abbrev pub sum_below : ℕ → List X → ℕ
  sum_below t xs = sum_by (part_below begin length_of t) xs

  abbrev pub AreApart : List X → Type 0
  AreApart xs = AllPairs (λ x y. (t : ℕ) → Within begin length_of t x → Within begin length_of t y → ⊥) xs

  -- from an instant to another no more is added than they are apart
  pub below_grows : (low d : ℕ) (xs : List X) → AreApart xs → sum_below (low + d) xs ≤ sum_below low xs + d
  below_grows low zero xs apart =
      let same : low ≡ low + 0 = omega arith in
      subst (λ t. sum_below t xs ≤ sum_below low xs + 0) same (omega arith)
  below_grows low (suc d) xs apart =
      let before : sum_below (low + d) xs ≤ sum_below low xs + d = below_grows low d xs apart in
      let added : sum_below (low + d + 1) xs ≤ sum_below (low + d) xs + 1 = one_added begin length_of (low + d) xs
      (λ i j e order below. apart i j e order below (low + d)) in
      let same : low + d + 1 ≡ low + suc d = omega arith in
      subst (λ t. sum_below t xs ≤ sum_below low xs + suc d) same (omega arith)

  -- from one instant to a later one
  grows : (low high : ℕ) (xs : List X) → low ≤ high → AreApart xs → sum_below high xs ≤ sum_below low xs + (high - low)
  grows low high xs order apart =
      let grown : sum_below (low + (high - low)) xs ≤ sum_below low xs + (high - low) = below_grows low (high - low) xs apart in
      let same : low + (high - low) ≡ high = omega arith in
      subst (λ t. sum_below t xs ≤ sum_below low xs + (high - low)) same grown

  -- how much of the interval lies between the two instants
  abbrev part_between : ℕ → ℕ → X → ℕ
  part_between low high x = part_below begin length_of high x - part_below begin length_of low x

  sum_between : (low high : ℕ) (xs : List X) → low ≤ high → sum_below high xs ≡ sum_below low xs + sum_by (part_between low high) xs
  sum_between low high [] order = refl
  sum_between low high (x ∷ xs) order =
      let rest = sum_between low high xs order in
      let at_low = sum_by-cons (part_below begin length_of low) x xs in
      let at_high = sum_by-cons (part_below begin length_of high) x xs in
      let added = sum_by-cons (part_between low high) x xs in
      omega arith

  -- between two instants that it doesn't straddle, an interval lies whole, or not at all
  in_or_out : (low high : ℕ) (x : X) → low ≤ high → IsClearOf low x → IsClearOf high x
      → (part_between low high x ≡ 0) ⊎ ((low ≤ begin x) × (begin x + length_of x ≤ high))
  in_or_out low high x order clear_low clear_high = elim clear_low [
    | inl before ↦ inl (omega arith)
    | inr after ↦ elim clear_high [
      | inl ended ↦ inr (after, ended)
      | inr later ↦ inl (omega arith)
    ]
  ]

  -- where the intervals and the idle time fill a room, what no sum of lengths fills of it is idle: by how far from the room's begin each lies at least
  pub room_left : (unit low high idle least : ℕ) (key : X → ℕ) (may : X → Bool) (xs : List X) → low ≤ high → AreApart xs → All (IsClearOf low) xs
      → All (IsClearOf high) xs
      → All (λ x. key x ≤ begin x - low) xs → All (λ x. low ≤ begin x → begin x + length_of x ≤ high → may x ≡ true) xs
      → sum_below low xs + (high - low) ≤ sum_below high xs + idle
      → sum_below high xs + wasted unit (staged key length_of idle least (arranged key (filter may xs))) (high - low) ≤ sum_below low xs + (high - low)
  room_left unit low high idle least key may xs order apart clear_low clear_high keys may_be full =
      let added = sum_between low high xs order in
      let works = staged key length_of idle least (arranged key (filter may xs)) in
      let are : All (IsCounted key length_of (part_between low high) (λ m. part_between (low + m) high) (high - low)) xs = λ k d below.
      let near = keys k d below in
      record {
        all_or_none = elim (in_or_out low high (get_or xs k d) order (clear_low k d below) (clear_high k d below)) [
          | inl out ↦ inl out
          | inr inside ↦ inr (omega (arith, inside.0, inside.1), omega (arith, inside.0, inside.1, near))
        ];
        within = λ m far. omega (arith, near, far);
      } in
      let others : All (λ x. may x ≡ false → part_between low high x ≡ 0) xs = λ k d below fails.
      elim (in_or_out low high (get_or xs k d) order (clear_low k d below) (clear_high k d below)) [
        | inl out ↦ out
        | inr inside ↦ absurd (true≢false (sym (may_be k d below inside.0 inside.1) ∙ fails))
      ] in
      let bound : (m : ℕ) → m ≤ high - low → sum_by (part_between (low + m) high) xs + m ≤ high - low = λ m small.
      let beyond = sum_between (low + m) high xs (omega arith) in
      let grown = grows (low + m) high xs (omega arith) apart in
      omega arith in
      let reached = staged_reached key length_of (part_between low high) (λ m. part_between (low + m) high) (high - low) idle least may xs are others bound
      (omega arith) in
      let grown = grows low high xs order apart in
      let waste = wasted-le unit works (sum_by (part_between low high) xs) (high - low) reached (omega arith) in
      omega arith

  -- the same by how far from the room's end each lies
  pub room_right : (unit low high idle least : ℕ) (key : X → ℕ) (may : X → Bool) (xs : List X) → low ≤ high → AreApart xs → All (IsClearOf low) xs
      → All (IsClearOf high) xs
      → All (λ x. key x ≤ high - (begin x + length_of x)) xs → All (λ x. low ≤ begin x → begin x + length_of x ≤ high → may x ≡ true) xs
      → sum_below low xs + (high - low) ≤ sum_below high xs + idle
      → sum_below high xs + wasted unit (staged key length_of idle least (arranged key (filter may xs))) (high - low) ≤ sum_below low xs + (high - low)
  room_right unit low high idle least key may xs order apart clear_low clear_high keys may_be full =
      let added = sum_between low high xs order in
      let works = staged key length_of idle least (arranged key (filter may xs)) in
      let are : All (IsCounted key length_of (part_between low high) (λ m. part_between low (high - m)) (high - low)) xs = λ k d below.
      let near = keys k d below in
      record {
        all_or_none = elim (in_or_out low high (get_or xs k d) order (clear_low k d below) (clear_high k d below)) [
          | inl out ↦ inl out
          | inr inside ↦ inr (omega (arith, inside.0, inside.1), omega (arith, inside.0, inside.1, near))
        ];
        within = λ m far. omega (arith, near, far);
      } in
      let others : All (λ x. may x ≡ false → part_between low high x ≡ 0) xs = λ k d below fails.
      elim (in_or_out low high (get_or xs k d) order (clear_low k d below) (clear_high k d below)) [
        | inl out ↦ out
        | inr inside ↦ absurd (true≢false (sym (may_be k d below inside.0 inside.1) ∙ fails))
      ] in
      let bound : (m : ℕ) → m ≤ high - low → sum_by (part_between low (high - m)) xs + m ≤ high - low = λ m small.
      let beyond = sum_between low (high - m) xs (omega arith) in
      let grown = grows low (high - m) xs (omega arith) apart in
      omega arith in
      let reached = staged_reached key length_of (part_between low high) (λ m. part_between low (high - m)) (high - low) idle least may xs are others bound
      (omega arith) in
      let grown = grows low high xs order apart in
      let waste = wasted-le unit works (sum_by (part_between low high) xs) (high - low) reached (omega arith) in
      omega arith

  -- by an instant after the first no more lies below it than it is after that
  up_to : (first low : ℕ) (xs : List X) → first ≤ low → All (λ y. first ≤ begin y) xs → AreApart xs → first + sum_below low xs ≤ low
  up_to first low xs order begun apart =
      let grown : sum_below (first + (low - first)) xs ≤ low - first = part_grows begin length_of first (low - first) xs begun apart in
      let same : first + (low - first) ≡ low = omega arith in
      let grown_low : sum_below low xs ≤ low - first = subst (λ t. sum_below t xs ≤ low - first) same grown in
      omega arith

  -- what lies after an instant is no longer than from there to the last
  down_from : (high last : ℕ) (xs : List X) → high ≤ last → All (λ y. begin y + length_of y ≤ last) xs → AreApart xs
      → sum_by length_of xs + high ≤ sum_below high xs + last
  down_from high last xs order ended apart =
      let whole = all_at_last begin length_of last xs ended in
      let grown : sum_below (high + (last - high)) xs ≤ sum_below high xs + (last - high) = below_grows high (last - high) xs apart in
      let same : high + (last - high) ≡ last = omega arith in
      let grown_last : sum_below last xs ≤ sum_below high xs + (last - high) = subst (λ t. sum_below t xs ≤ sum_below high xs + (last - high)) same grown in
      omega arith

  -- in a room, where none straddles the begin and the end of a part of it, what isn't filled before and after that part is idle time
  pub place : (unit first low from to high last idle least : ℕ) (key_left key_right : X → ℕ) (may : X → Bool) (xs : List X)
      → first ≤ low → low ≤ from → from ≤ to → to ≤ high → high ≤ last
      → AreApart xs → All (λ y. first ≤ begin y) xs → All (λ y. begin y + length_of y ≤ last) xs
      → All (IsClearOf low) xs → All (IsClearOf from) xs → All (IsClearOf to) xs → All (IsClearOf high) xs
      → All (λ y. key_left y ≤ begin y - low) xs → All (λ y. key_right y ≤ high - (begin y + length_of y)) xs
      → All (λ y. low ≤ begin y → begin y + length_of y ≤ high → may y ≡ true) xs
      → last ≤ (first + sum_by length_of xs) + idle
      → (first + sum_by length_of xs)
      + (wasted unit (staged key_left length_of idle least (arranged key_left (filter may xs))) (from - low)
      + wasted unit (staged key_right length_of idle least (arranged key_right (filter may xs))) (high - to))
      ≤ last
  place unit first low from to high last idle least key_left key_right may xs order_first order_low order order_high order_last apart begun ended
      clear_low clear_from clear_to clear_high keys_left keys_right may_be few =
      let before = up_to first low xs order_first begun apart in
      let after = down_from high last xs order_last ended apart in
      let grown_left = grows low from xs order_low apart in
      let grown = grows from to xs order apart in
      let grown_right = grows to high xs order_high apart in
      let left = room_left unit low from idle least key_left may xs order_low apart clear_low clear_from keys_left
      (All-weaker (λ y. low ≤ begin y → begin y + length_of y ≤ high → may y ≡ true) (λ y. low ≤ begin y → begin y + length_of y ≤ from → may y ≡ true)
      (λ y h above below. h above (omega arith)) xs may_be) (omega arith) in
      let right = room_right unit to high idle least key_right may xs order_high apart clear_to clear_high keys_right
      (All-weaker (λ y. low ≤ begin y → begin y + length_of y ≤ high → may y ≡ true) (λ y. to ≤ begin y → begin y + length_of y ≤ high → may y ≡ true)
      (λ y h above below. h (omega arith) below) xs may_be) (omega arith) in
      omega arith

  -- instants that none straddles, two for each break, one after another
  abbrev pub IsChain : ℕ → ℕ → List X → List (ℕ × ℕ) → Type 0
  IsChain low last xs [] = low ≤ last
  IsChain low last xs (gap ∷ gaps) = (low ≤ gap.0) × (gap.0 ≤ gap.1) × All (IsClearOf gap.0) xs × All (IsClearOf gap.1) xs × IsChain gap.1 last xs gaps

  chain_within : (low last : ℕ) (xs : List X) (gaps : List (ℕ × ℕ)) → IsChain low last xs gaps → low ≤ last
  chain_within low last xs [] chain = chain
  chain_within low last xs (gap ∷ gaps) chain =
      let rest = chain_within gap.1 last xs gaps chain.4 in
      let first = chain.0 in
      let second = chain.1 in
      omega arith

  -- what isn't filled of the rooms between them
  unfoldable pub lost_in : ℕ → (ℕ → ℕ → X → ℕ) → (ℕ → ℕ → X → Bool) → ℕ → ℕ → ℕ → List X → List (ℕ × ℕ) → ℕ
  lost_in unit key may idle low last xs [] = wasted unit (staged (key low last) length_of idle (last - low)
      (arranged (key low last) (filter (may low last) xs))) (last - low)
  lost_in unit key may idle low last xs (gap ∷ gaps) =
      wasted unit (staged (key low gap.0) length_of idle (gap.0 - low) (arranged (key low gap.0) (filter (may low gap.0) xs))) (gap.0 - low)
      + lost_in unit key may idle gap.1 last xs gaps

  module _ (unit : ℕ) (key : ℕ → ℕ → X → ℕ) (may : ℕ → ℕ → X → Bool) (first last idle : ℕ) (xs : List X) (apart : AreApart xs)
      (begun : All (λ y. first ≤ begin y) xs) (ended : All (λ y. begin y + length_of y ≤ last) xs)
      (keys : (from to : ℕ) → All (λ y. key from to y ≤ begin y - from) xs)
      (may_be : (from to : ℕ) → All (λ y. from ≤ begin y → begin y + length_of y ≤ to → may from to y ≡ true) xs)
      (few : last ≤ (first + sum_by length_of xs) + idle) where
    -- one room
    one_room : (low high : ℕ) → first ≤ low → low ≤ high → high ≤ last → All (IsClearOf low) xs → All (IsClearOf high) xs
        → sum_below high xs + wasted unit (staged (key low high) length_of idle (high - low) (arranged (key low high) (filter (may low high) xs)))
        (high - low) ≤ sum_below low xs + (high - low)
    one_room low high order_first order order_last clear_low clear_high =
        let before = up_to first low xs order_first begun apart in
        let after = down_from high last xs order_last ended apart in
        room_left unit low high idle (high - low) (key low high) (may low high) xs order apart clear_low clear_high (keys low high) (may_be low high)
        (omega arith)

    -- with what is lost in the rooms the intervals still fit
    rooms : (low : ℕ) (gaps : List (ℕ × ℕ)) → first ≤ low → IsChain low last xs gaps → All (IsClearOf low) xs
        → (sum_by length_of xs + lost_in unit key may idle low last xs gaps) + low ≤ sum_below low xs + last
    unfolding lost_in
    rooms low [] order chain clear =
        let whole = all_at_last begin length_of last xs ended in
        let here = one_room low last order chain (omega arith) clear (All-weaker (λ y. begin y + length_of y ≤ last) (IsClearOf last) (λ y h. inl h) xs ended)
        in
        omega arith
    rooms low (gap ∷ gaps) order chain clear =
        let room_order = chain.0 in
        let gap_order = chain.1 in
        let within = chain_within gap.1 last xs gaps chain.4 in
        let here = one_room low gap.0 order room_order (omega arith) clear chain.2 in
        let rest = rooms gap.1 gaps (omega arith) chain.4 chain.3 in
        let grown = grows gap.0 gap.1 xs gap_order apart in
        omega arith

    -- so nothing is lost that isn't idle
    pub rooms_fit : (gaps : List (ℕ × ℕ)) → IsChain first last xs gaps → (first + sum_by length_of xs) + lost_in unit key may idle first last xs gaps ≤ last
    rooms_fit gaps chain =
        let none = none_at_first begin length_of first xs begun in
        let all = rooms first gaps (omega arith) chain (All-weaker (λ y. first ≤ begin y) (IsClearOf first) (λ y h. inr h) xs begun) in
        omega arith
