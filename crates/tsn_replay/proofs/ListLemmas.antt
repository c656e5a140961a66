-- An element put between two lists, and the elements before a number.
use Rattle.std.proofs.Common.{◌≡◌, ℕ, ◌+◌, ◌≤◌, ◌<◌, List, [], ◌∷◌, ◌++◌, min, take, length, get_or, All, sym, ap, ◌∙◌, arith}
use Rattle.std.proofs.Math.Nat.{min-le_left, le-min}
use Rattle.std.proofs.lemmas.List.{get_or-take, length-take, take_more}
use Rattle.std.specs.List.{AllPairs}
use Rattle.std.proofs.lemmas.List.Elements.{All-head, All-tail, All-cons}
use Rattle.std.proofs.lemmas.List.Kept.{AllPairs-cons}
use Rattle.tsn_model.proofs.Lists.{AllPairs-head, AllPairs-tail}

pub All-insert : {X : Type 0} (P : X → Type 0) (xs ys : List X) (y : X) → All P (xs ++ ys) → P y → All P ((xs ++ y ∷ []) ++ ys)
All-insert P [] ys y all here = All-cons P y ys here all
All-insert P (x ∷ xs) ys y all here = All-cons P x ((xs ++ y ∷ []) ++ ys) (All-head P x (xs ++ ys) all) (All-insert P xs ys y (All-tail P x (xs ++ ys) all) here)

pub AllPairs-insert : {X : Type 0} (R : X → X → Type 0) (xs ys : List X) (y : X) → AllPairs R (xs ++ ys) → All (λ x. R x y) (xs ++ ys) → ((x : X) → R x y → R y x) → AllPairs R ((xs ++ y ∷ []) ++ ys)
AllPairs-insert R [] ys y pairs all turn = AllPairs-cons R y ys (λ k d below. turn _ (all k d below)) pairs
AllPairs-insert R (x ∷ xs) ys y pairs all turn =
    AllPairs-cons R x ((xs ++ y ∷ []) ++ ys)
    (All-insert (R x) xs ys y (AllPairs-head R x (xs ++ ys) pairs) (All-head (λ z. R z y) x (xs ++ ys) all))
    (AllPairs-insert R xs ys y (AllPairs-tail R x (xs ++ ys) pairs) (All-tail (λ z. R z y) x (xs ++ ys) all) turn)

-- one more of them is read
pub taken_more : {X : Type 0} (xs : List X) (i : ℕ) (d : X) (before after : List X) (x : X) → i < length xs → before ≡ take i xs
    → after ≡ before ++ x ∷ [] → x ≡ get_or xs i d → after ≡ take (i + 1) xs
taken_more xs i d before after x below is pushed here =
    pushed ∙ ap (λ (ys : List _). ys ++ x ∷ []) is ∙ ap (λ y. take i xs ++ y ∷ []) here ∙ sym (take_more xs i d below)

-- the elements before a number
pub taken_below : {X : Type 0} (n : ℕ) (xs : List X) (k : ℕ) → k < length (take n xs) → k < n
taken_below n xs k below = let size = length-take n xs in let least = min-le_left n (length xs) in omega arith

pub taken_at : {X : Type 0} (n : ℕ) (xs : List X) (k : ℕ) (d : X) → k < n → get_or (take n xs) k d ≡ get_or xs k d
taken_at n xs k d below = get_or-take n xs k d below

pub at_taken : {X : Type 0} (n : ℕ) (xs : List X) (k : ℕ) (d : X) → k < n → n ≤ length xs → (k < length (take n xs)) × (get_or (take n xs) k d ≡ get_or xs k d)
at_taken n xs k d below within = let size = length-take n xs in let least : n ≤ min n (length xs) = le-min (omega arith) within in (omega arith, get_or-take n xs k d below)
