-- Rooms on a link: numbers of frames, and the rows of those that may lie in a room.
use Rattle.std.proofs.Common.{◌≡◌, ℕ, zero, suc, ◌+◌, ◌-◌, ◌%◌, ◌≤◌, ◌<◌, min, List, [], ◌∷◌, ◌++◌, map, fold, length, take, drop, get_or, leb, cond, Bool, true, false, All, Contains, ℤ, pos, negsuc, ◌≤ℤ◌, refl, sym, ap, ◌∙◌, subst, arith, inl, inr, zero-le}
use Rattle.std.specs.Prelude.{unsigned_abs}
use Rattle.std.specs.Int.{◌∣◌}
use Rattle.std.specs.List.{filter}
use Rattle.std.proofs.lemmas.Int.{ints}
use Rattle.std.proofs.lemmas.Bool.{cases_Bool, cond-true, cond-false, le-leb, lt-leb}
use Rattle.std.proofs.lemmas.List.{map-append, take_more, drop_more, get_or-map, length-map}
use Rattle.std.proofs.lemmas.List.Sums.{fold-append}
use Rattle.std.proofs.lemmas.List.Elements.{All-nil, All-cons, All-head, All-tail}
use Rattle.std.proofs.lemmas.Nat.Gcd.{dvd_trans, dvd_refl, mod-eq-zero_of_dvd, le_of_dvd}
use Rattle.std.proofs.Math.Nat.{pos_of_dvd_of_pos}
use Rattle.tsn_model.specs.declared.Frame.{Frame}
use Rattle.tsn_model.specs.Network.{Network}
use Rattle.tsn_model.specs.Timing.{separation}
use Rattle.tsn_model.specs.Argument.{View, natural, head_at, end_at, common_divisor, inserted, arranged, staged, unit_on, idle_on, may_lie, from_left, from_right, works_left, works_right}
use Rattle.tsn_model.proofs.Routes.{separation-pos}
use Rattle.tsn_sums.specs.Sums.{key_of, work_of, IsUnit, AreLow}
use Rattle.tsn_sums.proofs.Divisors.{common_is}
use Rattle.tsn_argue.specs.Rooms.{IsSpan, row_on, rows_with, rows_on, works_of, from_place, until_place}
use Rattle.tsn_argue.specs.declared.room.Span.{Span}

-- ---- numbers

pub abs_natural : (z : ℤ) → pos 0 ≤ℤ z → unsigned_abs z ≡ natural z
unfolding natural
abs_natural (pos n) h = refl
abs_natural (negsuc n) h = absurd (omega (arith, ints, h))

pub abs_pos : (z : ℤ) → pos 0 ≤ℤ z → pos (unsigned_abs z) ≡ z
abs_pos (pos n) h = refl
abs_pos (negsuc n) h = absurd (omega (arith, ints, h))

pub abs_small : (z : ℤ) → pos 0 ≤ℤ z → z ≤ℤ pos 4000000000 → unsigned_abs z ≤ 4000000000
abs_small (pos n) h low = omega (arith, ints, low)
abs_small (negsuc n) h low = absurd (omega (arith, ints, h))

pub natural_is : (z : ℤ) (n : ℕ) → pos n ≡ z → n ≡ natural z
unfolding natural
natural_is (pos m) n same = omega (arith, ints, same)
natural_is (negsuc m) n same = absurd (omega (arith, ints, same))

pub natural_small : (z : ℤ) → z ≤ℤ pos 4000000000 → natural z ≤ 4000000000
unfolding natural
natural_small (pos n) h = omega (arith, ints, h)
natural_small (negsuc n) h = zero-le

-- ---- the unit of frames

fold_divides : (a : ℕ) (ws : List ℕ) → (fold common_divisor a ws ∣ a) × All (λ w. fold common_divisor a ws ∣ w) ws
fold_divides a [] = (dvd_refl a, All-nil (λ w. a ∣ w))
fold_divides a (w ∷ ws) =
    let rest = fold_divides (common_divisor a w) ws in
    let here = common_is a w in (
      dvd_trans (fold common_divisor (common_divisor a w) ws) rest.0 here.0,
      All-cons (λ w'. fold common_divisor (common_divisor a w) ws ∣ w') w ws (dvd_trans (fold common_divisor (common_divisor a w) ws) rest.0 here.1) rest.1,
    )

module _ (network : Network) (link : ℕ) where
  abbrev work : Frame → ℕ
  work frame = separation network frame.stream link

  pub unit_push : (first : Frame) (xs : List Frame) (y : Frame)
      → unit_on network link (first ∷ (xs ++ y ∷ [])) ≡ common_divisor (unit_on network link (first ∷ xs)) (work y)
  unfolding unit_on
  unit_push first xs y =
      ap (fold common_divisor 0) (map-append work (first ∷ xs) (y ∷ [])) ∙ fold-append common_divisor 0 (map work (first ∷ xs)) (work y ∷ [])

  pub unit_more : (first : Frame) (others : List Frame) (k : ℕ) (d : Frame) → k < length others → (unit next : ℕ)
      → unit ≡ unit_on network link (first ∷ take k others) → next ≡ common_divisor unit (work (get_or others k d))
      → next ≡ unit_on network link (first ∷ take (k + 1) others)
  unit_more first others k d below unit next is more =
      more ∙ ap (λ n. common_divisor n (work (get_or others k d))) is ∙ sym (unit_push first (take k others) (get_or others k d))
      ∙ ap (λ xs. unit_on network link (first ∷ xs)) (sym (take_more others k d below))

  unit_divides : (frames : List Frame) → All (λ frame. unit_on network link frames ∣ work frame) frames
  unfolding unit_on
  unit_divides frames =
      let divides = (fold_divides 0 (map work frames)).1 in
      λ k d below. subst (λ n. fold common_divisor 0 (map work frames) ∣ n) (get_or-map work frames k d (work d) below)
      (divides k (work d) (omega (arith, below, length-map frames work)))

  unit_some : (first : Frame) (others : List Frame) → 0 < unit_on network link (first ∷ others)
  unit_some first others =
      pos_of_dvd_of_pos (All-head (λ frame. unit_on network link (first ∷ others) ∣ work frame) first others (unit_divides (first ∷ others)))
      (separation-pos network first.stream link)

  pub unit_low : (first : Frame) (others : List Frame) → unit_on network link (first ∷ others) ≤ work first
  unit_low first others =
      le_of_dvd (separation-pos network first.stream link)
      (All-head (λ frame. unit_on network link (first ∷ others) ∣ work frame) first others (unit_divides (first ∷ others)))

  -- each work is at least the unit, and a multiple of it
  unit_each : (frames : List Frame) → All (λ frame. (unit_on network link frames ≤ work frame) × (work frame % unit_on network link frames ≡ 0)) frames
  unit_each frames = λ k d below.
      let frame = get_or frames k d in
      let divides = unit_divides frames k d below in
      (le_of_dvd (separation-pos network frame.stream link) divides, mod-eq-zero_of_dvd (unit_on network link frames) divides)

  -- ---- rows

  module _ (view : View) where
    pub lies : (low high : ℕ) (frame : Frame) (span : Span) → IsSpan network view link frame span → low + span.work ≤ span.end → span.head + span.work ≤ high
        → may_lie network view link low high frame ≡ true
    unfolding may_lie
    lies low high frame span is first second =
        let end = is.end in
        let head = is.head in
        let length_of = is.work in
        cond-true (leb (low + work frame) (natural (end_at network view link frame))) (leb (natural (head_at network view link frame) + work frame) high) false
        (le-leb (low + work frame) (natural (end_at network view link frame)) (omega arith))
        ∙ le-leb (natural (head_at network view link frame) + work frame) high (omega arith)

    pub lies_before : (low high : ℕ) (frame : Frame) (span : Span) → IsSpan network view link frame span → span.end < low + span.work
        → may_lie network view link low high frame ≡ false
    unfolding may_lie
    lies_before low high frame span is past =
        let end = is.end in
        let length_of = is.work in
        cond-false (leb (low + work frame) (natural (end_at network view link frame))) (leb (natural (head_at network view link frame) + work frame) high) false
        (lt-leb (low + work frame) (natural (end_at network view link frame)) (omega arith))

    pub lies_behind : (low high : ℕ) (frame : Frame) (span : Span) → IsSpan network view link frame span → low + span.work ≤ span.end
        → high < span.head + span.work
        → may_lie network view link low high frame ≡ false
    unfolding may_lie
    lies_behind low high frame span is first past =
        let end = is.end in
        let head = is.head in
        let length_of = is.work in
        cond-true (leb (low + work frame) (natural (end_at network view link frame))) (leb (natural (head_at network view link frame) + work frame) high) false
        (le-leb (low + work frame) (natural (end_at network view link frame)) (omega arith))
        ∙ lt-leb (natural (head_at network view link frame) + work frame) high (omega arith)

    module _ (low high : ℕ) (is_left : Bool) where
      abbrev row : Frame → ℕ × ℕ
      row frame = row_on network view link low high is_left frame

      abbrev may : Frame → Bool
      may frame = may_lie network view link low high frame

      pub row_added : (frame : Frame) (rows : List (ℕ × ℕ)) → may frame ≡ true
          → rows_with network view link low high is_left frame rows ≡ inserted key_of (row frame) rows
      unfolding rows_with
      row_added frame rows is = cond-true (may frame) (inserted key_of (row frame) rows) rows is

      pub row_left_out : (frame : Frame) (rows : List (ℕ × ℕ)) → may frame ≡ false → rows_with network view link low high is_left frame rows ≡ rows
      unfolding rows_with
      row_left_out frame rows isnt = cond-false (may frame) (inserted key_of (row frame) rows) rows isnt

      pub rows_cons : (frame : Frame) (frames : List Frame)
          → rows_on network view link low high is_left (frame ∷ frames) ≡ rows_with network view link low high is_left frame
          (rows_on network view link low high is_left frames)
      unfolding rows_on
      rows_cons frame frames = refl

      pub rows_nil : rows_on network view link low high is_left [] ≡ []
      unfolding rows_on
      rows_nil = refl

      -- they are those of the frames that may lie there, by falling keys
      inserted_row : (x : Frame) (xs : List Frame) → inserted key_of (row x) (map row xs) ≡ map row (inserted (λ y. key_of (row y)) x xs)
      unfolding inserted
      inserted_row x [] = refl
      inserted_row x (y ∷ ys) = elim (cases_Bool (leb (key_of (row y)) (key_of (row x)))) [
        | inl here ↦
            cond-true (leb (key_of (row y)) (key_of (row x))) (row x ∷ row y ∷ map row ys) (row y ∷ inserted key_of (row x) (map row ys)) here
            ∙ ap (map row) (sym (cond-true (leb (key_of (row y)) (key_of (row x))) (x ∷ y ∷ ys) (y ∷ inserted (λ y. key_of (row y)) x ys) here))
        | inr later ↦
            cond-false (leb (key_of (row y)) (key_of (row x))) (row x ∷ row y ∷ map row ys) (row y ∷ inserted key_of (row x) (map row ys)) later
            ∙ ap (λ list. row y ∷ list) (inserted_row x ys)
            ∙ ap (map row) (sym (cond-false (leb (key_of (row y)) (key_of (row x))) (x ∷ y ∷ ys) (y ∷ inserted (λ y. key_of (row y)) x ys) later))
      ]

      pub rows_arranged : (frames : List Frame) → rows_on network view link low high is_left frames ≡ map row
          (arranged (λ y. key_of (row y)) (filter may frames))
      unfolding rows_on arranged
      rows_arranged [] = refl
      rows_arranged (x ∷ xs) = elim (cases_Bool (may x)) [
        | inl passes ↦
            row_added x (rows_on network view link low high is_left xs) passes
            ∙ ap (inserted key_of (row x)) (rows_arranged xs)
            ∙ inserted_row x (arranged (λ y. key_of (row y)) (filter may xs))
            ∙ ap (λ list. map row (arranged (λ y. key_of (row y)) list)) (sym (cond-true (may x) (x ∷ filter may xs) (filter may xs) passes))
        | inr fails ↦
            row_left_out x (rows_on network view link low high is_left xs) fails
            ∙ rows_arranged xs
            ∙ ap (λ list. map row (arranged (λ y. key_of (row y)) list)) (sym (cond-false (may x) (x ∷ filter may xs) (filter may xs) fails))
      ]

      -- what holds of each work holds of those in the rows
      inserted_works : (P : ℕ → Type 0) (x : ℕ × ℕ) (rows : List (ℕ × ℕ)) → P x.1 → All (λ (r : ℕ × ℕ). P r.1) rows
          → All (λ (r : ℕ × ℕ). P r.1) (inserted key_of x rows)
      unfolding inserted
      inserted_works P x [] here rest = All-cons (λ (r : ℕ × ℕ). P r.1) x [] here rest
      inserted_works P x (y ∷ ys) here rest = elim (cases_Bool (leb (key_of y) (key_of x))) [
        | inl first ↦
            subst (All (λ (r : ℕ × ℕ). P r.1)) (sym (cond-true (leb (key_of y) (key_of x)) (x ∷ y ∷ ys) (y ∷ inserted key_of x ys) first))
            (All-cons (λ (r : ℕ × ℕ). P r.1) x (y ∷ ys) here rest)
        | inr later ↦
            subst (All (λ (r : ℕ × ℕ). P r.1)) (sym (cond-false (leb (key_of y) (key_of x)) (x ∷ y ∷ ys) (y ∷ inserted key_of x ys) later))
            (All-cons (λ (r : ℕ × ℕ). P r.1) y (inserted key_of x ys) (All-head (λ (r : ℕ × ℕ). P r.1) y ys rest)
            (inserted_works P x ys here (All-tail (λ (r : ℕ × ℕ). P r.1) y ys rest)))
      ]

      pub works_with : (P : ℕ → Type 0) (frame : Frame) (rows : List (ℕ × ℕ)) → P (work frame) → All (λ (r : ℕ × ℕ). P r.1) rows
          → All (λ (r : ℕ × ℕ). P r.1) (rows_with network view link low high is_left frame rows)
      works_with P frame rows here rest = elim (cases_Bool (may frame)) [
        | inl is ↦ subst (All (λ (r : ℕ × ℕ). P r.1)) (sym (row_added frame rows is)) (inserted_works P (row frame) rows here rest)
        | inr isnt ↦ subst (All (λ (r : ℕ × ℕ). P r.1)) (sym (row_left_out frame rows isnt)) rest
      ]

      works_on : (P : ℕ → Type 0) (frames : List Frame) → All (λ frame. P (work frame)) frames
          → All (λ (r : ℕ × ℕ). P r.1) (rows_on network view link low high is_left frames)
      works_on P [] all = subst (All (λ (r : ℕ × ℕ). P r.1)) (sym rows_nil) (All-nil (λ (r : ℕ × ℕ). P r.1))
      works_on P (x ∷ xs) all =
          subst (All (λ (r : ℕ × ℕ). P r.1)) (sym (rows_cons x xs))
          (works_with P x (rows_on network view link low high is_left xs) (All-head (λ frame. P (work frame)) x xs all)
          (works_on P xs (All-tail (λ frame. P (work frame)) x xs all)))

      -- so the unit divides them
      pub rows_unit : (first : Frame) (others : List Frame)
          → IsUnit (unit_on network link (first ∷ others)) (rows_on network view link low high is_left (first ∷ others))
      rows_unit first others =
          let unit = unit_on network link (first ∷ others) in record {
            some = unit_some first others;
            each = works_on (λ n. (unit ≤ n) × (n % unit ≡ 0)) (first ∷ others) (unit_each (first ∷ others));
          }

      length_inserted : (x : ℕ × ℕ) (rows : List (ℕ × ℕ)) → length (inserted key_of x rows) ≡ suc (length rows)
      unfolding inserted
      length_inserted x [] = refl
      length_inserted x (y ∷ ys) = elim (cases_Bool (leb (key_of y) (key_of x))) [
        | inl first ↦ ap length (cond-true (leb (key_of y) (key_of x)) (x ∷ y ∷ ys) (y ∷ inserted key_of x ys) first)
        | inr later ↦
            let rest = length_inserted x ys in
            ap length (cond-false (leb (key_of y) (key_of x)) (x ∷ y ∷ ys) (y ∷ inserted key_of x ys) later) ∙ ap suc rest
      ]

      pub length_with : (frame : Frame) (rows : List (ℕ × ℕ)) → length (rows_with network view link low high is_left frame rows) ≤ suc (length rows)
      length_with frame rows = elim (cases_Bool (may frame)) [
        | inl is ↦ let long = ap length (row_added frame rows is) ∙ length_inserted (row frame) rows in omega arith
        | inr isnt ↦ let same = ap length (row_left_out frame rows isnt) in omega arith
      ]

    staged_rows : (row : Frame → ℕ × ℕ) (idle least : ℕ) (xs : List Frame)
        → staged key_of work_of idle least (map row xs) ≡ staged (λ x. key_of (row x)) (λ x. work_of (row x)) idle least xs
    unfolding staged
    staged_rows row idle least [] = refl
    staged_rows row idle least (x ∷ xs) =
        ap (λ list. (min least (key_of (row x)) - idle, work_of (row x)) ∷ list) (staged_rows row idle (min least (key_of (row x))) xs)

    -- in stages they are the works of the frames in the order in which they fill the room
    pub works_are : (frames : List Frame) (low high : ℕ) (is_left : Bool)
        → staged key_of work_of (idle_on network view link frames) (high - low) (rows_on network view link low high is_left frames)
        ≡ works_of network view link frames low high is_left
    unfolding works_left works_right
    works_are frames low high true =
        ap (staged key_of work_of (idle_on network view link frames) (high - low)) (rows_arranged low high true frames)
        ∙ staged_rows (row low high true) (idle_on network view link frames) (high - low)
        (arranged (from_left network view link low) (filter (may_lie network view link low high) frames))
    works_are frames low high false =
        ap (staged key_of work_of (idle_on network view link frames) (high - low)) (rows_arranged low high false frames)
        ∙ staged_rows (row low high false) (idle_on network view link frames) (high - low)
        (arranged (from_right network view link high) (filter (may_lie network view link low high) frames))

-- the frames from a place on are that one and those behind it
pub frames_from : (frames : List Frame) (step : ℕ) (d : Frame) → step < length frames
    → drop (length frames - (step + 1)) frames ≡ get_or frames (length frames - (step + 1)) d ∷ drop (length frames - step) frames
frames_from frames step d below =
    let one : length frames - (step + 1) + 1 ≡ length frames - step = omega arith in
    drop_more frames (length frames - (step + 1)) d (omega arith)
    ∙ ap (λ n. get_or frames (length frames - (step + 1)) d ∷ drop n frames) one
