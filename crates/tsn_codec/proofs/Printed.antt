-- A loop that prints each element, and what is printed is read again.
use Rattle.std.proofs.Common.{◌≡◌, ◌≤◌, ◌<◌, ◌+◌, ℕ, List, [], ◌∷◌, ◌++◌, length, take, get_or, map, Option, Some, sym, ap, ap₂, ◌∙◌, Vec}
use Rattle.std.specs.Prelude.{option_and_then}
use Rattle.std.proofs.lemmas.List.{take_more, map-append}
use Rattle.std.specs.declared.alloc.Global.{Global}
use Rattle.serde_json.specs.Data.{Data}
use Rattle.serde_json.specs.View.{view}
use Rattle.serde_json.specs.declared.value.Value.{Value, Array}
use Rattle.tsn_cert.specs.Json.{each, elements, array_value}
use Rattle.tsn_cert.proofs.JsonLemmas.{listed-items_of_list, each_push, taken_all}
use Rattle.tsn_codec.proofs.JsonLemmas.{view-printed}

-- what is seen of the elements so far, and of one more
seen_more : {X A : Type 0} (seen : X → A) (xs : List X) (i : ℕ) (x : X)
    → i < length xs → x ≡ get_or xs i x → map seen (take (i + 1) xs) ≡ map seen (take i xs) ++ seen x ∷ []
seen_more seen xs i x within is =
    ap (map seen) (take_more xs i x within ∙ ap (λ y. take i xs ++ y ∷ []) (sym is)) ∙ map-append seen (take i xs) (x ∷ [])

-- one more element was printed, and is read again
pub each_printed_more : {X A : Type 0} (seen : X → A) (f : Data → Option A) (g : A → Data) (xs : List X) (i : ℕ) (x : X)
    → i < length xs → x ≡ get_or xs i x → f (g (seen x)) ≡ Some (seen x) → each f (map g (map seen (take i xs))) ≡ Some (map seen (take i xs))
    → each f (map g (map seen (take (i + 1) xs))) ≡ Some (map seen (take (i + 1) xs))
each_printed_more seen f g xs i x within is e h =
    rw (seen_more seen xs i x within is) (each_push f g (map seen (take i xs)) (seen x) h e)

-- one more element was printed
pub printed_more : {X A V : Type 0} (view : V → Data) (seen : X → A) (g : A → Data) (old new : List V) (v : V) (xs : List X) (i : ℕ) (x : X)
    → i < length xs → x ≡ get_or xs i x → new ≡ old ++ v ∷ [] → view v ≡ g (seen x) → map view old ≡ map g (map seen (take i xs))
    → map view new ≡ map g (map seen (take (i + 1) xs))
printed_more view seen g old new v xs i x within is pushed e h =
    ap (map view) pushed ∙ map-append view old (v ∷ []) ∙ ap₂ (λ a b. a ++ b ∷ []) h e
    ∙ sym (map-append g (map seen (take i xs)) (seen x ∷ [])) ∙ ap (map g) (sym (seen_more seen xs i x within is))

-- the array of all elements that were printed
pub printed_all : {X A : Type 0} (seen : X → A) (g : A → Data) (v : Vec Value Global) (xs : List X) (i : ℕ)
    → length xs ≤ i → map view v.items ≡ map g (map seen (take i xs)) → view (Array v) ≡ array_value (map g (map seen xs))
printed_all seen g v xs i done e =
    view-printed v (map g (map seen xs)) (e ∙ ap (λ l. map g (map seen l)) (taken_all xs i done))

-- all elements were printed
pub printed_done : {X A : Type 0} (seen : X → A) (f : Data → Option A) (g : A → Data) (xs : List X) (i : ℕ)
    → length xs ≤ i → each f (map g (map seen (take i xs))) ≡ Some (map seen (take i xs))
    → option_and_then (λ ds. each f ds) (elements (array_value (map g (map seen xs)))) ≡ Some (map seen xs)
printed_done seen f g xs i h e =
    let whole : take i xs ≡ xs = taken_all xs i h in
    ap (λ ds. each f ds) (listed-items_of_list (map g (map seen xs))) ∙ (rw whole at e)
