-- The numbers of a stream's triples.
use Rattle.std.proofs.Common.{◌≡◌, ℕ, ◌+◌, ◌≤◌, ◌<◌, inl, inr, true, false, List, [], ◌∷◌, ◌++◌, length, map, filter, cond, get_or, Contains, AllPairs, refl, sym, ap, ◌∙◌, subst, arith, append-nil, length-set}
use Rattle.std.specs.List.{range_with_len}
use Rattle.std.proofs.Math.ListN.{set}
use Rattle.std.proofs.lemmas.Bool.{cases_lt, cases_eq, cond-true, cond-false}
use Rattle.std.proofs.lemmas.List.{length-map, get_or-map, get_or_default, get_or-set_same, get_or-set_other, ext_get_or, map-set, map-append}
use Rattle.std.proofs.lemmas.Bool.Decides.{nat_tests}
use Rattle.std.proofs.lemmas.List.Elements.{filter-append}
use Rattle.std.proofs.lemmas.List.FromFn.{length-map-range_with_len, get_or-map-range_with_len, map-range_with_len_more}
use Rattle.std.proofs.lemmas.List.Kept.{AllPairs-filter}
use Rattle.tsn_model.specs.declared.Triple.{Triple}
use Rattle.tsn_model.proofs.Lists.{AllPairs-range, Contains-range, Contains-filter, range_more}
use Rattle.tsn_conflict.specs.declared.uses.Use.{Use}
use Rattle.tsn_conflict.specs.declared.numbers.Numbers.{Numbers}
use Rattle.tsn_conflict.specs.Raised.{triple_at}
use Rattle.tsn_conflict.specs.Pairs.{Meets, IsPairBelow, has_stream, numbers_with, numbers_in, with_number}

-- ---- listing them

pub length-numbers_in : (lists : List Numbers) → length (numbers_in lists) ≡ length lists
length-numbers_in lists = length-map lists (λ (list : Numbers). list.numbers.items)

-- the numbers of a stream among the first n triples
abbrev pub numbers_first : List Triple → ℕ → ℕ → List ℕ
numbers_first triples stream n = filter (λ number. has_stream stream (triple_at triples number)) (range_with_len 0 n)

numbers_first-more : (triples : List Triple) (stream n : ℕ)
    → numbers_first triples stream (n + 1) ≡ numbers_first triples stream n ++ cond (has_stream stream (triple_at triples n)) (n ∷ []) []
numbers_first-more triples stream n = grind (arith, range_more, filter-append)

pub number_taken : (triples : List Triple) (stream n : ℕ) → has_stream stream (triple_at triples n) ≡ true
    → numbers_first triples stream (n + 1) ≡ numbers_first triples stream n ++ n ∷ []
number_taken triples stream n has =
    cc (numbers_first-more triples stream n, cond-true (has_stream stream (triple_at triples n)) (n ∷ []) [] has)

pub number_skipped : (triples : List Triple) (stream n : ℕ) → has_stream stream (triple_at triples n) ≡ false
    → numbers_first triples stream (n + 1) ≡ numbers_first triples stream n
number_skipped triples stream n lacks = cc (
  numbers_first-more triples stream n,
  cond-false (has_stream stream (triple_at triples n)) (n ∷ []) [] lacks,
  append-nil (numbers_first triples stream n),
)

pub numbers_with_is : (triples : List Triple) (stream : ℕ) → numbers_with triples stream ≡ numbers_first triples stream (length triples)
unfolding numbers_with
numbers_with_is triples stream = refl

-- ---- listing them for all streams at once

pub number_pushed : (lists : List Numbers) (stream number : ℕ) (was now : Numbers) → stream < length lists → was ≡ get_or lists stream was
    → now.numbers.items ≡ was.numbers.items ++ number ∷ []
    → numbers_in (set lists stream now) ≡ with_number (numbers_in lists) stream number
number_pushed lists stream number was now below is more =
    map-set (λ (list : Numbers). list.numbers.items) lists stream now
    ∙ ap (set (numbers_in lists) stream) (more
    ∙ ap (λ xs. xs ++ number ∷ [])
    (ap (λ (list : Numbers). list.numbers.items) is ∙ sym (get_or-map (λ (list : Numbers). list.numbers.items) lists stream was [] below)))

-- each list has its stream's numbers among the first n triples
pub record AreFirst (triples : List Triple) (streams n : ℕ) (lists : List (List ℕ)) : Type 0 where
  pub long : length lists ≡ streams
  pub each : (stream : ℕ) → stream < streams → get_or lists stream [] ≡ numbers_first triples stream n

has_left : (triple : Triple) (stream : ℕ) → stream ≡ triple.left → has_stream stream triple ≡ true
has_left triple stream is = grind (arith, nat_tests)

has_right : (triple : Triple) (stream : ℕ) → stream ≡ triple.right → has_stream stream triple ≡ true
has_right triple stream is = grind (arith, nat_tests)

has_neither : (triple : Triple) (stream : ℕ) → (stream ≡ triple.left → ⊥) → (stream ≡ triple.right → ⊥) → has_stream stream triple ≡ false
has_neither triple stream not_left not_right = grind (arith, nat_tests)

pub length-with_number : (lists : List (List ℕ)) (stream number : ℕ) → length (with_number lists stream number) ≡ length lists
length-with_number lists stream number = length-set lists stream _

with_number-same : (lists : List (List ℕ)) (stream number : ℕ) → stream < length lists
    → get_or (with_number lists stream number) stream [] ≡ get_or lists stream [] ++ number ∷ []
with_number-same lists stream number below = get_or-set_same lists stream _ [] below

with_number-other : (lists : List (List ℕ)) (stream number other : ℕ) → (other ≡ stream → ⊥)
    → get_or (with_number lists stream number) other [] ≡ get_or lists other []
with_number-other lists stream number other differ = get_or-set_other lists stream other _ [] differ

pub one_triple_more : (triples : List Triple) (streams n : ℕ) (lists : List (List ℕ)) (triple : Triple) → triple ≡ triple_at triples n
    → IsPairBelow streams triple → AreFirst triples streams n lists
    → AreFirst triples streams (n + 1) (with_number (with_number lists triple.left n) triple.right n)
one_triple_more triples streams n lists triple is pair first =
    let i = triple.left in
    let j = triple.right in
    let once : List (List ℕ) = with_number lists i n in
    let ordered = pair.ordered in
    let counted = pair.counted in
    let long : length lists ≡ streams = first.long in
    let once_long : length once ≡ streams = length-with_number lists i n ∙ long in
    let left_inside : i < length lists = omega arith in
    let right_inside : j < length once = omega arith in
    record {
      long = length-with_number once j n ∙ once_long;
      each = λ stream below. elim (cases_eq stream j) [
        | inl right ↦
            subst (λ s. get_or (with_number once j n) s [] ≡ numbers_first triples s (n + 1)) (sym right)
            (with_number-same once j n right_inside
            ∙ ap (λ xs. xs ++ n ∷ []) (with_number-other lists i n j (λ same. omega arith) ∙ first.each j counted)
            ∙ sym (number_taken triples j n (ap (has_stream j) (sym is) ∙ has_right triple j refl)))
        | inr not_right ↦ with_number-other once j n stream not_right ∙ elim (cases_eq stream i) [
          | inl left ↦
              subst (λ s. get_or once s [] ≡ numbers_first triples s (n + 1)) (sym left)
              (with_number-same lists i n left_inside
              ∙ ap (λ xs. xs ++ n ∷ []) (first.each i (omega arith))
              ∙ sym (number_taken triples i n (ap (has_stream i) (sym is) ∙ has_left triple i refl)))
          | inr not_left ↦
              with_number-other lists i n stream not_left ∙ first.each stream below
              ∙ sym (number_skipped triples stream n (ap (has_stream stream) (sym is) ∙ has_neither triple stream not_left not_right))
        ]
      ];
    }

pub no_triple : (stream : ℕ) → numbers_with [] stream ≡ []
unfolding numbers_with
no_triple stream = refl

-- one empty list more
pub none_more : (lists now : List Numbers) (new : Numbers) (n : ℕ) → numbers_in lists ≡ map (numbers_with []) (range_with_len 0 n)
    → now ≡ lists ++ new ∷ []
    → new.numbers.items ≡ [] → numbers_in now ≡ map (numbers_with []) (range_with_len 0 (n + 1))
none_more lists now new n made more is =
    ap numbers_in more ∙ map-append (λ (list : Numbers). list.numbers.items) lists (new ∷ [])
    ∙ ap (λ (ls : List (List ℕ)). ls ++ new.numbers.items ∷ []) made
    ∙ ap (λ (xs : List ℕ). map (numbers_with []) (range_with_len 0 n) ++ xs ∷ []) (is ∙ sym (no_triple n))
    ∙ sym (map-range_with_len_more (numbers_with []) 0 n n (omega arith))

pub none_first : (triples : List Triple) (streams : ℕ) (lists : List (List ℕ)) → lists ≡ map (numbers_with []) (range_with_len 0 streams)
    → AreFirst triples streams 0 lists
unfolding numbers_with
none_first triples streams lists made = record {
  long = ap length made ∙ length-map-range_with_len (numbers_with []) 0 streams;
  each = λ stream below. ap (λ ls. get_or ls stream []) made
      ∙ get_or-map-range_with_len (numbers_with []) 0 streams stream stream [] below (omega arith);
}

pub all_first : (triples : List Triple) (streams n : ℕ) (lists : List (List ℕ)) → length triples ≡ n → AreFirst triples streams n lists
    → lists ≡ map (numbers_with triples) (range_with_len 0 streams)
all_first triples streams n lists all first =
    let long = length-map-range_with_len (numbers_with triples) 0 streams in
    ext_get_or [] lists (map (numbers_with triples) (range_with_len 0 streams)) (first.long ∙ sym long)
    (λ stream inside.
    let below : stream < streams = let count = first.long in omega arith in
    first.each stream below ∙ ap (numbers_first triples stream) (sym all) ∙ sym (numbers_with_is triples stream)
    ∙ sym (get_or-map-range_with_len (numbers_with triples) 0 streams stream stream [] below (omega arith)))

-- the lists of the streams are as many as the streams, and each is its stream's
pub lists_long : (lists : List Numbers) (triples : List Triple) (streams : ℕ)
    → numbers_in lists ≡ map (numbers_with triples) (range_with_len 0 streams) → length lists ≡ streams
lists_long lists triples streams made =
    sym (length-numbers_in lists) ∙ ap length made ∙ length-map-range_with_len (numbers_with triples) 0 streams

pub list_of : (lists : List Numbers) (triples : List Triple) (streams stream : ℕ) (none : Numbers)
    → numbers_in lists ≡ map (numbers_with triples) (range_with_len 0 streams) → stream < streams
    → (get_or lists stream none).numbers.items ≡ numbers_with triples stream
list_of lists triples streams stream none made below =
    let long = lists_long lists triples streams made in
    cc (
      get_or-map (λ (list : Numbers). list.numbers.items) lists stream none [] (omega arith),
      get_or-map-range_with_len (numbers_with triples) 0 streams
          stream stream [] below (omega arith),
    )

-- ---- what is among them

module _ (triples : List Triple) (stream : ℕ) where
  ascending : AllPairs (λ i j. i < j) (numbers_with triples stream)
  unfolding numbers_with
  ascending = AllPairs-filter (λ i j. i < j) (λ number. has_stream stream (triple_at triples number))
      (range_with_len 0 (length triples)) (AllPairs-range (length triples) 0)

  listed : (number : ℕ) → number < length triples → has_stream stream (triple_at triples number) ≡ true
      → Contains (numbers_with triples stream) number
  unfolding numbers_with
  listed number below has =
      Contains-filter (λ p. has_stream stream (triple_at triples p)) (range_with_len 0 (length triples)) number
      (Contains-range (length triples) 0 number (omega arith) (omega arith)) has

  -- where the first n of them don't meet, and the n-th isn't below the end, none below the end meets
  pub apart_with : (uses : List (List Use)) (offsets numbers : List ℕ) (n end : ℕ) → numbers ≡ numbers_with triples stream
      → end ≤ length triples
      → (n < length numbers → end ≤ get_or numbers n 0)
      → ((k : ℕ) → k < n → Meets uses offsets (triple_at triples (get_or numbers k 0)) → ⊥)
      → (number : ℕ) → number < end → has_stream stream (triple_at triples number) ≡ true
      → Meets uses offsets (triple_at triples number) → ⊥
  apart_with uses offsets numbers n end are within beyond apart number before has meets =
      let found : Contains numbers number = subst (λ ps. Contains ps number) (sym are) (listed number (omega arith) has) in
      let order : AllPairs (λ i j. i < j) numbers = subst (AllPairs (λ i j. i < j)) (sym are) ascending in
      let k : ℕ = found.0 in
      let inside : k < length numbers = found.1 in
      let at : get_or numbers k 0 ≡ number = get_or_default numbers k 0 number inside ∙ found.2 in
      elim (cases_lt k n) [
        | inl earlier ↦ apart k earlier (subst (λ p. Meets uses offsets (triple_at triples p)) (sym at) meets)
        | inr later ↦
            elim (cases_lt n k) [
              | inl less ↦ let above = order n k 0 less inside in omega arith
              | inr same ↦ grind arith
            ]
      ]
