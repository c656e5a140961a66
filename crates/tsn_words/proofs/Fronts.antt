-- A front of a list of texts, and the text behind it.
use Rattle.std.proofs.Common.{◌≡◌, ℕ, ◌+◌, ◌<◌, List, [], ◌∷◌, ◌++◌, map, take, length, slice_index_or, All, ap, ◌∙◌, subst, sym, add-one}
use Rattle.std.proofs.Math.Seq.{take-suc}
use Rattle.std.proofs.Math.ListN.{get_or-map, length-map}
use Rattle.std.proofs.lemmas.List.{map-append}
use Rattle.tsn_words.specs.Grammar.{number_of}

front : {X : Type 0} (f : X → List ℕ) (xs : List X) (i : ℕ) (d : X) → i < length xs
    → take (i + 1) (map f xs) ≡ take i (map f xs) ++ f (slice_index_or xs i d) ∷ []
front f xs i d below = rw add-one (take-suc (map f xs) i (f d) (rw length-map below) ∙ ap (λ (x : List ℕ). take i (map f xs) ++ x ∷ []) (get_or-map f xs i d))

-- what holds of each text holds of the one at a place
pub one_within : {X : Type 0} (f : X → List ℕ) (P : List ℕ → Type 0) (xs : List X) (i : ℕ) (d : X) → i < length xs → All P (map f xs) → P (f (slice_index_or xs i d))
one_within f P xs i d below all = subst P (get_or-map f xs i d) (all i (f d) (rw length-map below))

pub more_values : {X : Type 0} (f : X → List ℕ) (xs : List X) (i : ℕ) (d : X) (numbers : List ℕ) (number : ℕ) → i < length xs
    → numbers ≡ map number_of (take i (map f xs)) → number ≡ number_of (f (slice_index_or xs i d))
    → numbers ++ number ∷ [] ≡ map number_of (take (i + 1) (map f xs))
more_values f xs i d numbers number below before behind =
    ap (λ (ns : List ℕ). ns ++ number ∷ []) before
    ∙ ap (λ (n : ℕ). map number_of (take i (map f xs)) ++ n ∷ []) behind
    ∙ sym (map-append number_of (take i (map f xs)) (f (slice_index_or xs i d) ∷ []))
    ∙ ap (map number_of) (sym (front f xs i d below))

pub more_mapped : {X Y : Type 0} (f : X → Y) (xs : List X) (i : ℕ) (d : X) → i < length xs
    → map f (take (i + 1) xs) ≡ map f (take i xs) ++ f (slice_index_or xs i d) ∷ []
more_mapped f xs i d below = rw add-one (ap (map f) (take-suc xs i d below) ∙ map-append f (take i xs) (slice_index_or xs i d ∷ []))
