-- The first wrong element of a list refutes that all are right, and there is one at most.
use Rattle.std.proofs.Common.{◌≡◌, ◌≢◌, ℕ, zero, suc, ◌<◌, List, [], ◌∷◌, length, take, Some, All, AllPairs, Contains, inl, inr, sym, ap, ◌∙◌, subst, arith}
use Rattle.std.specs.Prelude.{slice_get}
use Rattle.std.proofs.lemmas.Bool.{cases_lt}
use Rattle.std.proofs.lemmas.List.{take-take, get_or-take, length-take-le}
use Rattle.std.proofs.lemmas.Option.{get_or_from_slice_get, slice_get_within}
use Rattle.tsn_argue.specs.First.{IsFirstWrong, IsFirstTold}

there_taken : {X : Type 0} (xs : List X) (k m : ℕ) (x : X) → k < m → slice_get xs k ≡ Some x → slice_get (take m xs) k ≡ Some x
there_taken [] zero m x below at = cc
there_taken [] (suc k) m x below at = cc
there_taken (first ∷ xs) k zero x below at = absurd (omega arith)
there_taken (first ∷ xs) zero (suc m) x below at = at
there_taken (first ∷ xs) (suc k) (suc m) x below at = there_taken xs k m x (omega arith) at

module _ {X F : Type 0} (Right : List X → Type 0) (Wrong : List X → X → F → Type 0)
    (clash : (xs : List X) (k : ℕ) (x : X) (fault : F) → Right xs → slice_get xs k ≡ Some x → Wrong (take k xs) x fault → ⊥) where
  pub first_wrong_refutes : (xs : List X) (fault : F) → IsFirstWrong Right Wrong xs fault → Right xs → ⊥
  first_wrong_refutes xs fault is right = clash xs is.k is.there fault right is.at is.wrong

  blocks : (xs : List X) (k m : ℕ) (x : X) (fault : F) → k < m → slice_get xs k ≡ Some x → Wrong (take k xs) x fault → Right (take m xs) → ⊥
  blocks xs k m x fault below at wrong right =
      let same : take k (take m xs) ≡ take k xs = take-take k m xs (omega arith) in
      clash (take m xs) k x fault right (there_taken xs k m x below at) (subst (λ ys. Wrong ys x fault) (sym same) wrong)

  pub same_place : (xs : List X) (a b : F) (one : IsFirstWrong Right Wrong xs a) (two : IsFirstWrong Right Wrong xs b) → one.k ≡ two.k
  same_place xs a b one two = elim (cases_lt one.k two.k) [
    | inl below ↦ absurd (blocks xs one.k two.k one.there a below one.at one.wrong two.right_before)
    | inr above ↦ elim (cases_lt two.k one.k) [
      | inl below ↦ absurd (blocks xs two.k one.k two.there b below two.at two.wrong one.right_before)
      | inr past ↦ omega arith
    ]
  ]

  pub one_first_wrong : ((before : List X) (x : X) (a b : F) → Wrong before x a → Wrong before x b → a ≡ b) → (xs : List X) (a b : F)
      → IsFirstWrong Right Wrong xs a → IsFirstWrong Right Wrong xs b → a ≡ b
  one_first_wrong only xs a b one two =
      let place = same_place xs a b one two in
      let there : Some one.there ≡ Some two.there = sym one.at ∙ ap (slice_get xs) place ∙ two.at in
      let same : one.there ≡ two.there = cc there in
      only (take two.k xs) two.there a b (subst (λ x. Wrong (take two.k xs) x a) same (subst (λ n. Wrong (take n xs) one.there a) place one.wrong)) two.wrong

  pub told_refutes : {T : Type 0} (told : ℕ → F → T) (xs : List X) (fault : T) → IsFirstTold told Right Wrong xs fault → Right xs → ⊥
  told_refutes told xs fault is right = first_wrong_refutes xs is.0 is.1 right

  pub one_first_told : {T : Type 0} (told : ℕ → F → T) → ((before : List X) (x : X) (a b : F) → Wrong before x a → Wrong before x b → a ≡ b)
      → (xs : List X) (a b : T) → IsFirstTold told Right Wrong xs a → IsFirstTold told Right Wrong xs b → a ≡ b
  one_first_told told only xs a b one two =
      let place = same_place xs one.0 two.0 one.1 two.1 in
      let wrong = one_first_wrong only xs one.0 two.0 one.1 two.1 in
      one.2 ∙ (λ i. told (place i) (wrong i)) ∙ sym two.2

-- ---- what holds of an element of a list

pub all_there : {X : Type 0} (P : X → Type 0) (xs : List X) (k : ℕ) (x : X) → All P xs → slice_get xs k ≡ Some x → P x
all_there P xs k x all at = subst P (get_or_from_slice_get xs k x x at) (all k x (slice_get_within xs k x at))

-- of different elements none stands before
pub none_before : {X : Type 0} (xs : List X) (k : ℕ) (x : X) → AllPairs ◌≢◌ xs → slice_get xs k ≡ Some x → Contains (take k xs) x → ⊥
none_before xs k x different at (i, below, is) =
    let within : k < length xs = slice_get_within xs k x at in
    let long : length (take k xs) ≡ k = length-take-le k xs (omega (arith, within)) in
    let low : i < k = omega (arith, below, long) in
    different i k x low within (sym (get_or-take k xs i x low) ∙ is ∙ sym (get_or_from_slice_get xs k x x at))
