-- What a loop finds in the rest of a list, from an index on, and what it knows of the elements before it.
use Rattle.std.proofs.Common.{◌≡◌, ℕ, ◌+◌, ◌<◌, ◌≤◌, Bool, true, false, cond, ◌&&◌, ◌||◌, List, [], ◌∷◌, All, map, length, get_or, take, drop}
use Rattle.std.proofs.Common.{Option, Some, None, ap, sym, ◌∙◌, subst}
use Rattle.std.specs.Prelude.{position}
use Rattle.std.specs.List.{find, list_any, list_all, position_from}
use Rattle.std.proofs.lemmas.List.{drop_more, drop_all, take_more, take_all}
use Rattle.std.proofs.lemmas.List.Elements.{All-push}
use Rattle.std.proofs.lemmas.Iterator.Adapters.{position_from-zero}

-- the elements from the i-th on, as they are and as they are seen
pub rest_from : {V : Type 0} (vs : List V) (i : ℕ) (v : V) → i < length vs → v ≡ get_or vs i v → drop i vs ≡ v ∷ drop (i + 1) vs
rest_from vs i v h is = drop_more vs i v h ∙ ap (λ w. w ∷ drop (i + 1) vs) (sym is)

pub rest_seen : {V X : Type 0} (f : V → X) (vs : List V) (i : ℕ) (v : V) (x : X) → i < length vs → v ≡ get_or vs i v → x ≡ f v
    → map f (drop i vs) ≡ x ∷ map f (drop (i + 1) vs)
rest_seen f vs i v x h is seen = ap (map f) (rest_from vs i v h is) ∙ ap (λ y. y ∷ map f (drop (i + 1) vs)) (sym seen)

pub rest_at : {V X : Type 0} (f : V → X) (vs : List V) (i : ℕ) (v : V) → i < length vs
    → map f (drop i vs) ≡ f (get_or vs i v) ∷ map f (drop (i + 1) vs)
rest_at f vs i v h = ap (map f) (drop_more vs i v h)

pub rest_none : {V X : Type 0} (f : V → X) (vs : List V) (i : ℕ) → length vs ≤ i → map f (drop i vs) ≡ []
rest_none f vs i done = ap (map f) (drop_all i vs done)

module _ {X : Type 0} (test : X → Bool) (xs more : List X) (x : X) (next : xs ≡ x ∷ more) where
  -- the first that passes is this one, or else that of the others
  pub find_here : (whole : Option X) → test x ≡ true → find test xs ≡ whole → Some x ≡ whole
  find_here whole passes all = sym (ap (find test) next ∙ ap (λ b. cond b (Some x) (find test more)) passes) ∙ all

  pub find_later : (whole : Option X) → test x ≡ false → find test xs ≡ whole → find test more ≡ whole
  find_later whole fails all = sym (ap (find test) next ∙ ap (λ b. cond b (Some x) (find test more)) fails) ∙ all

  pub place_here : (i : ℕ) (whole : Option ℕ) → test x ≡ true → position_from test i xs ≡ whole → Some i ≡ whole
  place_here i whole passes all = sym (ap (position_from test i) next ∙ ap (λ b. cond b (Some i) (position_from test (i + 1) more)) passes) ∙ all

  pub place_later : (i : ℕ) (whole : Option ℕ) → test x ≡ false → position_from test i xs ≡ whole → position_from test (i + 1) more ≡ whole
  place_later i whole fails all = sym (ap (position_from test i) next ∙ ap (λ b. cond b (Some i) (position_from test (i + 1) more)) fails) ∙ all

  -- one of them passes where this one does, or one of the others
  pub any_here : (whole : Bool) → test x ≡ true → list_any test xs ≡ whole → true ≡ whole
  any_here whole passes all = sym (ap (list_any test) next ∙ ap (λ b. b || list_any test more) passes) ∙ all

  pub any_later : (whole : Bool) → test x ≡ false → list_any test xs ≡ whole → list_any test more ≡ whole
  any_later whole fails all = sym (ap (list_any test) next ∙ ap (λ b. b || list_any test more) fails) ∙ all

  -- all pass where this one does, and all others
  pub all_here : (whole : Bool) → test x ≡ false → list_all test xs ≡ whole → false ≡ whole
  all_here whole fails all = sym (ap (list_all test) next ∙ ap (λ b. b && list_all test more) fails) ∙ all

  pub all_later : (whole : Bool) → test x ≡ true → list_all test xs ≡ whole → list_all test more ≡ whole
  all_later whole passes all = sym (ap (list_all test) next ∙ ap (λ b. b && list_all test more) passes) ∙ all

-- at the list's end none is left
module _ {X : Type 0} (test : X → Bool) (xs : List X) (i : ℕ) (past : length xs ≤ i) where
  pub any_past : (whole : Bool) → list_any test (drop i xs) ≡ whole → false ≡ whole
  any_past whole rest = sym (ap (list_any test) (drop_all i xs past)) ∙ rest

  pub all_past : (whole : Bool) → list_all test (drop i xs) ≡ whole → true ≡ whole
  all_past whole rest = sym (ap (list_all test) (drop_all i xs past)) ∙ rest

  pub place_past : (whole : Option ℕ) → position_from test i (drop i xs) ≡ whole → None ≡ whole
  place_past whole rest = sym (ap (position_from test i) (drop_all i xs past)) ∙ rest

pub place_begun : {X : Type 0} (test : X → Bool) (xs : List X) → position_from test 0 xs ≡ position test xs
place_begun test xs = sym (position_from-zero test xs)

-- all up to this one are so
pub all_more : {X : Type 0} (P : X → Type 0) (xs : List X) (i : ℕ) (d : X) → i < length xs → All P (take i xs) → P (get_or xs i d)
    → All P (take (i + 1) xs)
all_more P xs i d below before here = subst (All P) (sym (take_more xs i d below)) (All-push P (take i xs) (get_or xs i d) before here)

pub all_done : {X : Type 0} (P : X → Type 0) (xs : List X) (i : ℕ) → length xs ≤ i → All P (take i xs) → All P xs
all_done P xs i past before = subst (All P) (take_all i xs past) before
