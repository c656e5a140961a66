-- Tellers with their bags.
use Rattle.std.proofs.Common.{◌≡◌, ℕ, zero, suc, ◌+◌, ◌<◌, List, [], ◌∷◌, ◌++◌, map, take, drop, length, append_assoc, refl, sym, ap, ◌∙◌, subst, arith}
use Rattle.std.specs.Prelude.{slice_index_or, All}
use Rattle.std.proofs.lemmas.List.{take-append-le, take_all, length-map, map-append}
use Rattle.std.proofs.lemmas.List.Elements.{All-nil, All-cons, All-head, All-tail, All-map, All-push}
use Rattle.tsn_incumbent.specs.Names.{Names}
use Rattle.tsn_incumbent.specs.Teller.{Known, IsEven, fresh_teller, tellers_from}
use Rattle.tsn_incumbent.specs.Gathered.{IsInOrder}
use Rattle.tsn_worker.specs.Gathered.{AreBack}

-- tellers with no event are even, and in order
pub fresh_length : (names : Names) (first count : ℕ) → length (tellers_from names first count) ≡ count
fresh_length names first zero = refl
fresh_length names first (suc count) = ap suc (fresh_length names (suc first) count)

pub fresh_even : (names : Names) (first count : ℕ) → All IsEven (tellers_from names first count)
fresh_even names first zero = All-nil IsEven
fresh_even names first (suc count) = All-cons IsEven (fresh_teller names.race.network first) (tellers_from names (suc first) count) refl (fresh_even names (suc first) count)

fresh_at : (names : Names) (first count k : ℕ) (d : Known) → k < count → (slice_index_or (tellers_from names first count) k d).standing.number ≡ first + k
fresh_at names first zero k d low = absurd (omega arith)
fresh_at names first (suc count) zero d low = omega arith
fresh_at names first (suc count) (suc k) d low = let next = fresh_at names (suc first) count k d (omega arith) in omega (arith, next)

pub fresh_order : (names : Names) (count : ℕ) → IsInOrder (tellers_from names 0 count)
fresh_order names count = λ k d low. let at = fresh_at names 0 count k d (omega (arith, fresh_length names 0 count)) in omega (arith, at)

module _ {X : Type 0} where
  pub same_numbers : (f : X → ℕ) (xs ys : List X) → length xs ≡ length ys → ((k : ℕ) (d : X) → k < length xs → f (slice_index_or ys k d) ≡ f (slice_index_or xs k d)) → map f ys ≡ map f xs
  same_numbers f [] [] long each = refl
  same_numbers f [] (y ∷ ys) long each = absurd (omega arith)
  same_numbers f (x ∷ xs) [] long each = absurd (omega arith)
  same_numbers f (x ∷ xs) (y ∷ ys) long each =
      let here = each 0 x (omega arith) in
      let rest = same_numbers f xs ys (omega arith) (λ k d low. each (suc k) d (omega arith)) in
      λ i. here i ∷ rest i

  pub map_twice : {Y Z : Type 0} (f : X → Y) (g : Y → Z) (xs : List X) → map g (map f xs) ≡ map (λ x. g (f x)) xs
  map_twice f g [] = refl
  map_twice f g (x ∷ xs) = ap (λ zs. g (f x) ∷ zs) (map_twice f g xs)

  pub at_map : {Y : Type 0} (f : X → Y) (xs : List X) (k : ℕ) (d : X) → slice_index_or (map f xs) k (f d) ≡ f (slice_index_or xs k d)
  at_map f [] k d = refl
  at_map f (x ∷ xs) zero d = refl
  at_map f (x ∷ xs) (suc k) d = at_map f xs k d

  pub all_under : {Y : Type 0} (P : Y → Type 0) (f : X → Y) (xs : List X) → All P (map f xs) → All (λ x. P (f x)) xs
  all_under P f [] all = All-nil (λ x. P (f x))
  all_under P f (x ∷ xs) all = All-cons (λ x. P (f x)) x xs (All-head P (f x) (map f xs) all) (all_under P f xs (All-tail P (f x) (map f xs) all))

  -- one more is taken from the front of a list, and put behind another
  pub taken_more : {Y : Type 0} (f : X → Y) (xs more : List X) (x : X) (rest after all : List Y) → more ≡ xs ++ x ∷ [] → rest ≡ f x ∷ after → map f xs ++ rest ≡ all → map f more ++ after ≡ all
  taken_more f xs more x rest after all is first together = rw (is, map-append f xs (x ∷ []), append_assoc) (rw first at together)

  pub given_more : {Y : Type 0} (f : X → Y) (ys more : List Y) (x : X) (rest after : List X) (all : List Y) → more ≡ ys ++ f x ∷ [] → rest ≡ x ∷ after → ys ++ map f rest ≡ all → more ++ map f after ≡ all
  given_more f ys more x rest after all is first together = rw (is, append_assoc) (rw first at together)

  -- what a slice of all of a `Vec` wrote back
  pub written : (old new : List X) (len : ℕ) → length new ≡ len → take len (new ++ drop (length new) old) ≡ new
  written old new len long = take-append-le len new (drop (length new) old) (omega arith) ∙ take_all len new (omega arith)

-- tellers of the same numbers are in order too
pub order_by_numbers : (before after : List Known) → map (λ (t : Known). t.standing.number) after ≡ map (λ (t : Known). t.standing.number) before → IsInOrder before → IsInOrder after
order_by_numbers before after same order =
    λ k d low.
    let f : Known → ℕ = λ t. t.standing.number in
    let long = ap length same in
    let first = length-map after f in
    let second = length-map before f in
    sym (at_map f after k d) ∙ ap (λ ns. slice_index_or ns k (f d)) same ∙ at_map f before k d ∙ order k d (omega (arith, long, first, second))

module _ (names : Names) (count : ℕ) (front : List Known) (t last : Known) {M : Type 0} (f : M → Known) (old slice new : List M) (len : ℕ) (pushed : List Known) where
  pub come_back : tellers_from names 0 count ≡ front ++ t ∷ [] → map f old ≡ front → slice ≡ old → length new ≡ length slice → length slice ≡ len
      → All (λ m. IsEven (f m)) new → ((k : ℕ) (d : M) → k < length slice → (f (slice_index_or new k d)).standing.number ≡ (f (slice_index_or slice k d)).standing.number)
      → IsEven last → last.standing.number ≡ t.standing.number → pushed ≡ map f (take len (new ++ drop (length new) old)) ++ last ∷ [] → AreBack count pushed
  come_back all team is kept long even each last_even last_number then =
      let after = map f (take len (new ++ drop (length new) old)) in
      let number : Known → ℕ = λ k. k.standing.number in
      let back = written old new len (kept ∙ long) in
      let there : after ≡ map f new = ap (map f) back in
      let numbers : map number after ≡ map number front =
      ap (map number) there ∙ map_twice f number new ∙ same_numbers (λ (m : M). (f m).standing.number) slice new (sym kept) each ∙ ap (map (λ (m : M). (f m).standing.number)) is ∙ sym (map_twice f number old) ∙ ap (map number) team in
      let same : map number pushed ≡ map number (front ++ t ∷ []) =
      ap (map number) then ∙ map-append number after (last ∷ []) ∙ (λ i. numbers i ++ last_number i ∷ []) ∙ sym (map-append number front (t ∷ [])) in
      record {
        counted = sym (length-map pushed number) ∙ ap length same ∙ length-map (front ++ t ∷ []) number ∙ ap length (sym all) ∙ fresh_length names 0 count;
        order = order_by_numbers (front ++ t ∷ []) pushed same (subst IsInOrder all (fresh_order names count));
        even = subst (All IsEven) (sym then) (All-push IsEven after last (subst (All IsEven) (sym there) (All-map IsEven f new even)) last_even);
      }
