-- A loop over the parts of a list: whether all of them fit, and that all are read again.
use Rattle.std.proofs.Common.{◌≡◌, ◌≤◌, ◌<◌, ◌+◌, ℕ, List, [], ◌∷◌, ◌++◌, length, take, get_or, map, Bool, Option, Some, sym, ap, ap₂, ◌∙◌}
use Rattle.std.specs.Prelude.{option_and_then, ◌&&◌}
use Rattle.std.specs.List.{list_all}
use Rattle.std.proofs.lemmas.List.{take_more}
use Rattle.std.proofs.lemmas.List.Folds.{list_all_more}
use Rattle.serde_json.specs.Data.{Data}
use Rattle.tsn_cert.specs.Json.{each, elements, array_value}
use Rattle.tsn_cert.proofs.JsonLemmas.{listed-items_of_list, taken_all, each_push}

taken_more : {X : Type 0} (xs : List X) (i : ℕ) (x : X) → i < length xs → x ≡ get_or xs i x → take (i + 1) xs ≡ take i xs ++ x ∷ []
taken_more xs i x within is = take_more xs i x within ∙ ap (λ y. take i xs ++ y ∷ []) (sym is)

-- one more element is read again
pub back_more : {X : Type 0} (f : Data → Option X) (g : X → Data) (xs : List X) (i : ℕ) (x : X)
    → i < length xs → x ≡ get_or xs i x → f (g x) ≡ Some x → each f (map g (take i xs)) ≡ Some (take i xs)
    → each f (map g (take (i + 1) xs)) ≡ Some (take (i + 1) xs)
back_more f g xs i x within is e h = rw (taken_more xs i x within is) (each_push f g (take i xs) x h e)

-- all elements are read again
pub back_all : {X : Type 0} (f : Data → Option X) (g : X → Data) (xs : List X) (i : ℕ)
    → length xs ≤ i → each f (map g (take i xs)) ≡ Some (take i xs)
    → option_and_then (λ ds. each f ds) (elements (array_value (map g xs))) ≡ Some xs
back_all f g xs i done e =
    let whole : take i xs ≡ xs = taken_all xs i done in
    ap (λ ds. each f ds) (listed-items_of_list (map g xs)) ∙ (rw whole at e)

pub fits_more : {X : Type 0} (fits : X → Bool) (xs : List X) (i : ℕ) (x : X) (old new : Bool) (fit : Bool) → i < length xs → x ≡ get_or xs i x
    → old ≡ list_all fits (take i xs) → fit ≡ fits x → new ≡ (old && fit) → new ≡ list_all fits (take (i + 1) xs)
fits_more fits xs i x old new fit within is before here both =
    both ∙ ap₂ (λ a b. a && b) before (here ∙ ap fits is) ∙ sym (list_all_more fits xs i x within)

pub fits_all : {X : Type 0} (fits : X → Bool) (xs : List X) (i : ℕ) (all : Bool) → length xs ≤ i → all ≡ list_all fits (take i xs) → all ≡ list_all fits xs
fits_all fits xs i all done e = e ∙ ap (list_all fits) (taken_all xs i done)
