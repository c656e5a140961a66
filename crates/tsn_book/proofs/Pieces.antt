-- Reading a list that stands in numbered pieces.
use Rattle.std.proofs.Common.{◌≡◌, ◌≢◌, ℕ, zero, suc, ◌+◌, ◌-◌, ◌^◌, ◌≤◌, ◌<◌, leb, leb-true, true, false, List, [], ◌∷◌, ◌++◌, length, map, take, drop, get_or, set, refl, sym, ap, ◌∙◌, subst, arith, append-nil, inl, inr}
use Rattle.std.specs.List.{flat_map}
use Rattle.std.specs.List.Sorted.{IsNonDecreasingBy, IsPartitionedBy, IsPartitionPoint}
use Rattle.std.proofs.lemmas.Bool.{cases_lt, leb-false}
use Rattle.std.proofs.lemmas.List.{length-append, length-map, length-drop, length-take-le, take_all, take_more, get_or_past, get_or_append_left, get_or-append-add, get_or-take}
use Rattle.std.proofs.lemmas.List.Concat.{get_or-flat_map}
use Rattle.std.proofs.lemmas.List.Folds.{length-flat_map-take}
use Rattle.std.proofs.lemmas.List.Sorted.{IsPartitionedBy-leb}
use Rattle.std.proofs.lemmas.Grind.{flat_map-append}
use Rattle.tsn_book.specs.declared.log.Settled.{Settled}
use Rattle.tsn_book.specs.declared.log.Piece.{Piece}
use Rattle.tsn_book.specs.Log.{look_of, items_of, AreNumbered, IsPieced}

-- ---- where a piece begins

first_at : (first : ℕ) (full : List Piece) → AreNumbered first full → (k : ℕ) (d : Piece) → k < length full
    → (get_or full k d).first ≡ first + length (flat_map items_of (take k full))
first_at first [] numbered k d within = absurd (omega (arith, within))
first_at first (piece ∷ full) numbered zero d within = omega (arith, numbered.0)
first_at first (piece ∷ full) numbered (suc k) d within =
    let rest = first_at (first + length (items_of piece)) full numbered.1 k d (omega (arith, within)) in
    omega (arith, rest, length-append (items_of piece) (flat_map items_of (take k full)))

-- no piece begins before one that it follows
firsts_rise : (first : ℕ) (full : List Piece) → AreNumbered first full → IsNonDecreasingBy (λ (piece : Piece). piece.first) full
firsts_rise first [] numbered i j d order within = absurd (omega (arith, within))
firsts_rise first (piece ∷ full) numbered zero j d order within = omega (arith, numbered.0, first_at first (piece ∷ full) numbered j d within)
firsts_rise first (piece ∷ full) numbered (suc i) zero d order within = absurd (omega (arith, order))
firsts_rise first (piece ∷ full) numbered (suc i) (suc j) d order within =
    firsts_rise (first + length (items_of piece)) full numbered.1 i j d (omega (arith, order)) (omega (arith, within))

pub parted : (full : List Piece) → AreNumbered 0 full → (number : ℕ) → IsPartitionedBy (λ (piece : Piece). leb piece.first number) full
parted full numbered number = IsPartitionedBy-leb (λ (piece : Piece). piece.first) full number (firsts_rise 0 full numbered)

-- how many stand in the pieces up to one
up_to : (full : List Piece) (k : ℕ) (d : Piece) → k < length full
    → length (flat_map items_of (take (k + 1) full)) ≡ length (flat_map items_of (take k full)) + length (items_of (get_or full k d))
up_to full k d within =
    let piece = get_or full k d in
    let more = ap (λ pieces. length (flat_map items_of pieces)) (take_more full k d within) in
    let parts = ap length (flat_map-append items_of (take k full) (piece ∷ [])) in
    omega (arith, more, parts, length-append (flat_map items_of (take k full)) (items_of piece ++ []), ap length (append-nil (items_of piece)))

-- the last piece that begins no later than a number has the event of that number
module _ (full : List Piece) (numbered : AreNumbered 0 full) (number : ℕ) (within : number < length (flat_map items_of full)) (after : ℕ)
    (point : IsPartitionPoint (λ (piece : Piece). leb piece.first number ≡ true) (λ (piece : Piece). leb piece.first number ≡ false) full after) where
  pub some_before : 1 ≤ after
  some_before =
      elim (cases_lt 0 after) [
        | inl some ↦ omega (arith, some)
        | inr none ↦ absurd (not_first full numbered within (λ d exists. leb-false _ _ (point.1 0 d none exists)))
      ]
    where
      not_first : (pieces : List Piece) → AreNumbered 0 pieces → number < length (flat_map items_of pieces)
          → ((d : Piece) → 0 < length pieces → number < (get_or pieces 0 d).first) → ⊥
      not_first [] are inside later = omega (arith, inside)
      not_first (piece ∷ pieces) are inside later = omega (arith, are.0, later piece (omega arith))

  pub begins_before : (d : Piece) → (get_or full (after - 1) d).first ≤ number
  begins_before d = leb-true _ _ (point.0 (after - 1) d (omega arith) (omega (arith, some_before)))

  pub ends_behind : after ≤ length full → (d : Piece) → number < (get_or full (after - 1) d).first + length (items_of (get_or full (after - 1) d))
  ends_behind few d =
      let inside : after - 1 < length full = omega (arith, few, some_before) in
      let one_more : after - 1 + 1 ≡ after = omega (arith, some_before) in
      let here = first_at 0 full numbered (after - 1) d inside in
      let counted = up_to full (after - 1) d inside in
      let same = ap (λ n. length (flat_map items_of (take n full))) one_more in
      elim (cases_lt after (length full)) [
        | inl more ↦
            let next = first_at 0 full numbered after d more in
            let later = leb-false _ _ (point.1 after d (omega arith) more) in
            omega (arith, here, counted, same, next, later)
        | inr past ↦
            let all = ap (λ pieces. length (flat_map items_of pieces)) (take_all after full past) in
            omega (arith, here, counted, same, all, within)
      ]

-- ---- reading

-- the event of a number stands in a piece before the last one
pub record StandsIn (full : List Piece) (number k : ℕ) (piece : Piece) : Type 0 where
  pub within : k < length full
  pub is : piece ≡ get_or full k piece
  pub from : piece.first ≤ number
  pub to : number < piece.first + length (items_of piece)

-- what the search for a piece says of it
pub stands_in : (seen full : List Piece) → seen ≡ full → (number k : ℕ) (piece : Piece) → piece ≡ get_or full k piece → k < length seen
    → (get_or seen k piece).first ≤ number → number < (get_or seen k piece).first + length (items_of (get_or seen k piece))
    → StandsIn full number k piece
stands_in seen full same number k piece is within from to =
    let here : get_or seen k piece ≡ piece = ap (λ pieces. get_or pieces k piece) same ∙ sym is in
    record {
      within = omega (arith, within, ap length same);
      is = is;
      from = subst (λ (p : Piece). p.first ≤ number) here from;
      to = subst (λ (p : Piece). number < p.first + length (items_of p)) here to;
    }

stands_at : (full : List Piece) → AreNumbered 0 full → (number k : ℕ) (piece : Piece) → StandsIn full number k piece
    → number ≡ length (flat_map items_of (take k full)) + (number - piece.first)
stands_at full numbered number k piece stands =
    omega (arith, first_at 0 full numbered k piece stands.within, ap (λ (p : Piece). p.first) stands.is, stands.from)

pub read_full : (full : List Piece) → AreNumbered 0 full → (rest : List Settled) (number k : ℕ) (piece : Piece) → StandsIn full number k piece → (d : Settled)
    → get_or (flat_map items_of full ++ rest) number d ≡ get_or (items_of piece) (number - piece.first) d
read_full full numbered rest number k piece stands d =
    let at = number - piece.first in
    let place = stands_at full numbered number k piece stands in
    let same : length (items_of piece) ≡ length (items_of (get_or full k piece)) = ap (λ p. length (items_of p)) stands.is in
    let inside : number < length (flat_map items_of full) =
    omega (arith, place, stands.from, stands.to, same, length-flat_map-take items_of full k piece stands.within) in
    get_or_append_left (flat_map items_of full) rest d number inside
    ∙ ap (λ n. get_or (flat_map items_of full) n d) place
    ∙ get_or-flat_map items_of full k at piece d stands.within (omega (arith, stands.from, stands.to, same))
    ∙ ap (λ p. get_or (items_of p) at d) (sym stands.is)

module _ {full : List Piece} {before : ℕ} {last : List Settled} {settled : ℕ} (pieced : IsPieced full before last settled) where
  -- an event of the last piece
  pub read_last : (number : ℕ) → before ≤ number → number < length (flat_map items_of full ++ take settled last) → (d : Settled)
      → get_or (flat_map items_of full ++ take settled last) number d ≡ get_or last (number - before) d
  read_last number from within d =
      let count = pieced.counted in
      let is : number ≡ length (flat_map items_of full) + (number - before) = omega (arith, count, from) in
      let inside : number - before < settled =
      omega (arith, count, within, length-append (flat_map items_of full) (take settled last), length-take-le settled last pieced.within) in
      ap (λ n. get_or (flat_map items_of full ++ take settled last) n d) is
      ∙ get_or-append-add (flat_map items_of full) (take settled last) (number - before) d
      ∙ get_or-take settled last (number - before) d inside

-- ---- one more piece

numbered_more : (first : ℕ) (full : List Piece) → AreNumbered first full → (piece : Piece) → piece.first ≡ first + length (flat_map items_of full)
    → AreNumbered first (full ++ piece ∷ [])
numbered_more first [] numbered piece is = (omega (arith, is), tt)
numbered_more first (next ∷ full) numbered piece is = (
  numbered.0,
  numbered_more (first + length (items_of next)) full numbered.1 piece
      (omega (arith, is, length-append (items_of next) (flat_map items_of full))),
)

pub items_more : (full : List Piece) (piece : Piece) → flat_map items_of (full ++ piece ∷ []) ≡ flat_map items_of full ++ items_of piece
items_more full piece = flat_map-append items_of full (piece ∷ []) ∙ ap (λ items. flat_map items_of full ++ items) (append-nil (items_of piece))

-- where nothing waits, all of the last piece is settled
pub all_settled : (last : List Settled) (settled : ℕ) → map look_of (drop settled last) ≡ [] → take settled last ≡ last
all_settled last settled none =
    take_all settled last (omega (arith, ap length none, length-map (drop settled last) look_of, length-drop settled last))

module _ {full : List Piece} {before : ℕ} {last : List Settled} {settled : ℕ} (pieced : IsPieced full before last settled) where
  -- the last piece, all of which is settled, goes to the others
  pub pieced_more : (piece : Piece) (next : List Settled) (new : ℕ) → piece.first ≡ before → items_of piece ≡ last → new ≡ before + length last
      → new + length next ≤ 2 ^ 62 → IsPieced (full ++ piece ∷ []) new next 0
  pieced_more piece next new begins has is few =
      let count = pieced.counted in
      record {
        numbered = numbered_more 0 full pieced.numbered piece (omega (arith, begins, count));
        counted = omega (arith, is, count, ap length (items_more full piece), ap length has, length-append (flat_map items_of full) (items_of piece));
        within = omega arith;
        few = few;
      }

  -- the same where the last piece is empty, and isn't kept
  pub pieced_same : (next : List Settled) (new : ℕ) → length last ≡ 0 → new ≡ before + length last → new + length next ≤ 2 ^ 62 → IsPieced full new next 0
  pieced_same next new empty is few = record { numbered = pieced.numbered; counted = omega (arith, is, empty, pieced.counted); within = omega arith; few = few }

-- ---- one event is written over

-- all events but one are the same
abbrev pub SameButOne : ℕ → List Settled → List Settled → Type 0
SameButOne number after before = (other : ℕ) → other ≢ number → (d : Settled) → get_or after other d ≡ get_or before other d

-- the same with more events behind
same_and_more : (at : ℕ) (now was rest : List Settled) → length now ≡ length was → SameButOne at now was → SameButOne at (now ++ rest) (was ++ rest)
same_and_more at now was rest as_many same other apart d =
    elim (cases_lt other (length now)) [
      | inl inside ↦
          get_or_append_left now rest d other inside ∙ same other apart d ∙ sym (get_or_append_left was rest d other (omega (arith, inside, as_many)))
      | inr past ↦
          let at_now : other ≡ length now + (other - length now) = omega (arith, past) in
          let at_was : other ≡ length was + (other - length now) = omega (arith, past, as_many) in
          ap (λ n. get_or (now ++ rest) n d) at_now
          ∙ get_or-append-add now rest (other - length now) d
          ∙ sym (get_or-append-add was rest (other - length now) d)
          ∙ sym (ap (λ n. get_or (was ++ rest) n d) at_was)
    ]

-- the same behind other events
same_behind : (front now was : List Settled) (at number : ℕ) → number ≡ length front + at → SameButOne at now was
    → SameButOne number (front ++ now) (front ++ was)
same_behind front now was at number is same other apart d =
    elim (cases_lt other (length front)) [
      | inl inside ↦ get_or_append_left front now d other inside ∙ sym (get_or_append_left front was d other inside)
      | inr past ↦
          let place : other ≡ length front + (other - length front) = omega (arith, past) in
          let beside : other - length front ≢ at = λ same_place. apart (omega (arith, place, is, same_place)) in
          ap (λ n. get_or (front ++ now) n d) place
          ∙ get_or-append-add front now (other - length front) d
          ∙ same (other - length front) beside d
          ∙ sym (get_or-append-add front was (other - length front) d)
          ∙ sym (ap (λ n. get_or (front ++ was) n d) place)
    ]

-- the same of the first events
same_front : (count at : ℕ) (now was : List Settled) → length now ≡ length was → count ≤ length was → SameButOne at now was
    → SameButOne at (take count now) (take count was)
same_front count at now was as_many few same other apart d =
    elim (cases_lt other count) [
      | inl inside ↦ get_or-take count now other d inside ∙ same other apart d ∙ sym (get_or-take count was other d inside)
      | inr past ↦
          get_or_past (take count now) other d (omega (arith, past, length-take-le count now (omega (arith, as_many, few))))
          ∙ sym (get_or_past (take count was) other d (omega (arith, past, length-take-le count was few)))
    ]

module _ {full : List Piece} {before : ℕ} {last : List Settled} {settled : ℕ} (pieced : IsPieced full before last settled) where
  -- in the last piece
  pub written_last : (number : ℕ) → before ≤ number → (now : List Settled) → length now ≡ length last → SameButOne (number - before) now last
      → SameButOne number (flat_map items_of full ++ take settled now) (flat_map items_of full ++ take settled last)
  written_last number from now as_many same =
      same_behind (flat_map items_of full) (take settled now) (take settled last) (number - before) number (omega (arith, from, pieced.counted))
      (same_front settled (number - before) now last as_many pieced.within same)

-- in another piece
numbered_written : (first : ℕ) (full : List Piece) → AreNumbered first full → (k : ℕ) (d piece : Piece) → piece.first ≡ (get_or full k d).first
    → length (items_of piece) ≡ length (items_of (get_or full k d)) → AreNumbered first (set full k piece)
numbered_written first [] numbered k d piece begins as_many = tt
numbered_written first (was ∷ full) numbered zero d piece begins as_many =
    let next : first + length (items_of was) ≡ first + length (items_of piece) = omega (arith, as_many) in
    (begins ∙ numbered.0, subst (λ n. AreNumbered n full) next numbered.1)
numbered_written first (other ∷ full) numbered (suc k) d piece begins as_many =
    (numbered.0, numbered_written (first + length (items_of other)) full numbered.1 k d piece begins as_many)

counted_written : (full : List Piece) (k : ℕ) (d piece : Piece) → length (items_of piece) ≡ length (items_of (get_or full k d))
    → length (flat_map items_of (set full k piece)) ≡ length (flat_map items_of full)
counted_written [] k d piece as_many = refl
counted_written (was ∷ full) zero d piece as_many =
    omega (arith, as_many, length-append (items_of was) (flat_map items_of full), length-append (items_of piece) (flat_map items_of full))
counted_written (other ∷ full) (suc k) d piece as_many =
    omega (
      arith,
      counted_written full k d piece as_many,
      length-append (items_of other) (flat_map items_of full),
      length-append (items_of other) (flat_map items_of (set full k piece)),
    )

piece_written : (full : List Piece) (k : ℕ) (d piece : Piece) (at number : ℕ) → k < length full → number ≡ length (flat_map items_of (take k full)) + at
    → length (items_of piece) ≡ length (items_of (get_or full k d)) → SameButOne at (items_of piece) (items_of (get_or full k d))
    → SameButOne number (flat_map items_of (set full k piece)) (flat_map items_of full)
piece_written [] k d piece at number within is as_many same = absurd (omega (arith, within))
piece_written (was ∷ full) zero d piece at number within is as_many same =
    λ other apart. same_and_more at (items_of piece) (items_of was) (flat_map items_of full) as_many same other (λ place. apart (omega (arith, place, is)))
piece_written (before ∷ full) (suc k) d piece at number within is as_many same =
    let inner = length (flat_map items_of (take k full)) + at in
    same_behind (items_of before) (flat_map items_of (set full k piece)) (flat_map items_of full) inner number
    (omega (arith, is, length-append (items_of before) (flat_map items_of (take k full))))
    (piece_written full k d piece at inner (omega (arith, within)) refl as_many same)

-- another piece stands where one stood
module _ {full : List Piece} {before : ℕ} {last : List Settled} {settled : ℕ} (pieced : IsPieced full before last settled)
    (k : ℕ) (was piece : Piece) (is : was ≡ get_or full k was) (as_many : length (items_of piece) ≡ length (items_of was)) where
  as_many_there : length (items_of piece) ≡ length (items_of (get_or full k was))
  as_many_there = as_many ∙ ap (λ p. length (items_of p)) is

  pub written_pieced : piece.first ≡ was.first → IsPieced (set full k piece) before last settled
  written_pieced begins =
      record {
        numbered = numbered_written 0 full pieced.numbered k was piece (begins ∙ ap (λ (p : Piece). p.first) is) as_many_there;
        counted = pieced.counted ∙ sym (counted_written full k was piece as_many_there);
        within = pieced.within;
        few = pieced.few;
      }

  pub written_counted : length (flat_map items_of (set full k piece) ++ take settled last) ≡ length (flat_map items_of full ++ take settled last)
  written_counted =
      omega (
        arith,
        counted_written full k was piece as_many_there,
        length-append (flat_map items_of full) (take settled last),
        length-append (flat_map items_of (set full k piece)) (take settled last),
      )

  pub written_others : (number : ℕ) → StandsIn full number k was → SameButOne (number - was.first) (items_of piece) (items_of was)
      → SameButOne number (flat_map items_of (set full k piece) ++ take settled last) (flat_map items_of full ++ take settled last)
  written_others number stands same =
      same_and_more number (flat_map items_of (set full k piece)) (flat_map items_of full) (take settled last) (counted_written full k was piece as_many_there)
      (piece_written full k was piece (number - was.first) number stands.within (stands_at full pieced.numbered number k was stands) as_many_there
      (subst (λ (p : Piece). SameButOne (number - was.first) (items_of piece) (items_of p)) is same))
