-- The first element of a list that fails a test.
use Rattle.std.proofs.Common.{◌≡◌, ◌<◌, ◌≤◌, ◌+◌, ℕ, List, [], ◌∷◌, length, map, Bool, true, false, not, Option, Some, None, refl, sym, ap, ap₂, ◌∙◌, arith, get_or, subst}
use Rattle.std.specs.Prelude.{position, cond, nat_lt, option_map, unwrap_or}
use Rattle.std.specs.List.{list_all, prefix_len, position_or_len}
use Rattle.std.proofs.lemmas.List.Sums.{prefix_len-le-length}
use Rattle.std.proofs.lemmas.Bool.Decides.{nat_tests}
use Rattle.std.proofs.lemmas.List.{length-map}
use Rattle.std.proofs.lemmas.List.Quantifiers.{position-Some}
use Rattle.std.proofs.lemmas.Option.{slice_get_read, slice_get-map}
use Rattle.tsn_codec.specs.Matter.{IsFirstWithout}

-- as far as all pass
abbrev pub passing : {A : Type 0} → (A → Bool) → List A → ℕ
passing test xs = prefix_len (λ x. not (not (test x))) xs

full_head : {A : Type 0} (test : A → Bool) (x : A) (xs : List A) (b : Bool) → test x ≡ b → length (x ∷ xs) ≤ passing test (x ∷ xs)
    → (length xs ≤ passing test xs → list_all test xs ≡ true) → list_all test (x ∷ xs) ≡ true
full_head test x xs true e h more =
    let all : length (x ∷ xs) ≤ 1 + passing test xs = rw e at h in
    rw (e, more (omega (arith, all))) refl
full_head test x xs false e h more =
    let all : length (x ∷ xs) ≤ 0 = rw e at h in
    absurd (omega (arith, all))

passing_all : {A : Type 0} (test : A → Bool) (xs : List A) → length xs ≤ passing test xs → list_all test xs ≡ true
passing_all test [] h = refl
passing_all test (x ∷ xs) h = full_head test x xs (test x) refl h (passing_all test xs)

short_head : {A : Type 0} (test : A → Bool) (x : A) (xs : List A) (b : Bool) → test x ≡ b → passing test (x ∷ xs) < length (x ∷ xs)
    → (passing test xs < length xs → list_all test xs ≡ false) → list_all test (x ∷ xs) ≡ false
short_head test x xs true e h more =
    let some : 1 + passing test xs < length (x ∷ xs) = rw e at h in
    rw (e, more (omega (arith, some))) refl
short_head test x xs false e h more = rw e refl

passing_some : {A : Type 0} (test : A → Bool) (xs : List A) → passing test xs < length xs → list_all test xs ≡ false
passing_some test [] h = absurd (omega arith)
passing_some test (x ∷ xs) h = short_head test x xs (test x) refl h (passing_some test xs)

placed : (a b : ℕ) (k : Option ℕ) → cond (nat_lt a b) (Some a) None ≡ k → (t : Bool) → nat_lt a b ≡ t → cond t (Some a) None ≡ k
placed a b k h t e = ap (λ t. cond t (Some a) None) (sym e) ∙ h

pub none_fails : {A : Type 0} (test : A → Bool) (xs : List A) → position (λ x. not (test x)) xs ≡ None → list_all test xs ≡ true
none_fails test xs h = by_order (nat_lt (passing test xs) (length xs)) refl
  where
    by_order : (t : Bool) → nat_lt (passing test xs) (length xs) ≡ t → list_all test xs ≡ true
    by_order true e = let bad : Some (passing test xs) ≡ None = placed (passing test xs) (length xs) None h true e in cc
    by_order false e = passing_all test xs (grind (arith, nat_tests))

pub one_fails : {A : Type 0} (test : A → Bool) (xs : List A) (k : ℕ) → position (λ x. not (test x)) xs ≡ Some k → (k < length xs) × (list_all test xs ≡ false)
one_fails test xs k h = by_order (nat_lt (passing test xs) (length xs)) refl
  where
    by_order : (t : Bool) → nat_lt (passing test xs) (length xs) ≡ t → (k < length xs) × (list_all test xs ≡ false)
    by_order true e =
        let less : passing test xs < length xs = grind (arith, nat_tests) in
        let some : Some (passing test xs) ≡ Some k = placed (passing test xs) (length xs) (Some k) h true e in
        let same : passing test xs ≡ k = cc in
        (omega arith, passing_some test xs less)
    by_order false e = let bad : None ≡ Some k = placed (passing test xs) (length xs) (Some k) h false e in absurd (cc)

pub placed_first : {A : Type 0} (test : A → Bool) (xs : List A) (k : ℕ) → passing test xs ≡ k → k < length xs → position (λ x. not (test x)) xs ≡ Some k
placed_first test xs k is less =
    let within : nat_lt (passing test xs) (length xs) ≡ true = grind (arith, nat_tests) in
    ap (λ t. cond t (Some (passing test xs)) None) within ∙ ap Some is

pub prefix_map : {A B : Type 0} (p : B → Bool) (f : A → B) (xs : List A) → prefix_len p (map f xs) ≡ prefix_len (λ x. p (f x)) xs
prefix_map p f [] = refl
prefix_map p f (x ∷ xs) = ap (λ n. cond (p (f x)) (1 + n) 0) (prefix_map p f xs)

-- of what is seen of the elements
pub position_map : {A B : Type 0} (p : B → Bool) (f : A → B) (xs : List A) → position p (map f xs) ≡ position (λ x. p (f x)) xs
position_map p f xs = ap₂ (λ a b. cond (nat_lt a b) (Some a) None) (prefix_map (λ x. not (p x)) f xs) (length-map xs f)

pub first_read : {A : Type 0} (test : A → Bool) (xs : List A) (k : ℕ) (x : A) → Some k ≡ position (λ y. not (test y)) xs → x ≡ get_or xs k x
    → IsFirstWithout test xs k x
first_read test xs k x h e = (sym h, slice_get_read xs (length xs) k x refl (one_fails test xs k (sym h)).0 e)

pub first_seen : {X A : Type 0} (test : A → Bool) (seen : X → A) (xs : List X) (ys : List A) (k : ℕ) (x : X) → map seen xs ≡ ys
    → Some k ≡ position (λ y. not (test (seen y))) xs → x ≡ get_or xs k x → IsFirstWithout test ys k (seen x)
first_seen test seen xs ys k x same h e =
    let less = (one_fails (λ y. test (seen y)) xs k (sym h)).0 in
    subst (λ ys. IsFirstWithout test ys k (seen x)) same (
      position_map (λ y. not (test y)) seen xs ∙ sym h,
      slice_get-map seen xs k ∙ ap (option_map seen) (slice_get_read xs (length xs) k x refl less e),
    )

pub never_within : {A : Type 0} (test : A → Bool) (xs : List A) (k : ℕ) (x : A) → Some k ≡ position (λ y. not (test y)) xs
    → x ≡ get_or xs k x → test x ≡ true → ⊥
never_within test xs k x h e within =
    let fails = (position-Some (λ y. not (test y)) xs k x (sym h)).1 in
    let bad : false ≡ true = ap not (sym within ∙ ap test e) ∙ fails in
    cc

-- its number, or else how many there are
pub first_or_len : {A : Type 0} (p : A → Bool) (xs : List A) (r : Option ℕ) → r ≡ position p xs → unwrap_or r (length xs) ≡ position_or_len p xs
first_or_len p xs r is = by_order (nat_lt (position_or_len p xs) (length xs)) refl
  where
    by_order : (t : Bool) → nat_lt (position_or_len p xs) (length xs) ≡ t → unwrap_or r (length xs) ≡ position_or_len p xs
    by_order true e =
        let some : position p xs ≡ Some (position_or_len p xs) = ap (λ t. cond t (Some (position_or_len p xs)) None) e in
        ap (λ o. unwrap_or o (length xs)) (is ∙ some)
    by_order false e =
        let none : position p xs ≡ None = ap (λ t. cond t (Some (position_or_len p xs)) None) e in
        let most = prefix_len-le-length (λ x. not (p x)) xs in
        let least : length xs ≤ position_or_len p xs = grind (arith, nat_tests) in
        ap (λ o. unwrap_or o (length xs)) (is ∙ none) ∙ omega (arith, most, least)
