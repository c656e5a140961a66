-- What a file's value is, and lists that are printed and read again.
use Rattle.std.proofs.Common.{◌≡◌, ◌≤◌, ◌+◌, ℕ, List, [], ◌∷◌, ◌++◌, length, take, map, Option, Some, None, true, refl, sym, ap, ap₂, ◌∙◌, append-nil, arith}
use Rattle.std.proofs.lemmas.Bool.Decides.{nat_tests}
use Rattle.std.specs.Prelude.{option_and_then, nat_le, ◌&&◌}
use Rattle.std.specs.Str.{IsUtf8}
use Rattle.std.proofs.Math.ListN.{take-append-drop, drop_of_length-le}
use Rattle.std.proofs.lemmas.Str.{is_utf8-from_IsUtf8}
use Rattle.serde_json.specs.Data.{Data}
use Rattle.tsn_cert.proofs.LineFeed.{read-line_feed}
use Rattle.serde_json.specs.Read.{read}
use Rattle.tsn_cert.specs.Json.{when, value_of, listed, elements, each, items_of_list, array_value, number_value, numbers, whole_number}

pub value_of-read : (bytes : List ℕ) (d : Data) → IsUtf8 bytes → read bytes ≡ Some d → value_of bytes ≡ Some d
value_of-read bytes d utf8 e = ap (λ b. when b (read bytes)) (is_utf8-from_IsUtf8 bytes utf8) ∙ e

-- with its line feed
pub value_of-line_feed : (bytes : List ℕ) (d : Data) → IsUtf8 (bytes ++ 10 ∷ []) → read bytes ≡ Some d → value_of (bytes ++ 10 ∷ []) ≡ Some d
value_of-line_feed bytes d utf8 e = value_of-read (bytes ++ 10 ∷ []) d utf8 (read-line_feed bytes ∙ e)

pub listed-items_of_list : (ds : List Data) → listed (items_of_list ds) ≡ ds
listed-items_of_list [] = refl
listed-items_of_list (d ∷ ds) = ap (λ l. d ∷ l) (listed-items_of_list ds)

pub each-map : {A B D : Type 0} (f : D → Option B) (g : A → D) (h : A → B) → ((x : A) → f (g x) ≡ Some (h x)) → (xs : List A) → each f (map g xs) ≡ Some (map h xs)
each-map f g h e [] = refl
each-map f g h e (x ∷ xs) = rw (e x, each-map f g h e xs) refl

map_same : {A : Type 0} (xs : List A) → map (λ x. x) xs ≡ xs
map_same [] = refl
map_same (x ∷ xs) = ap (λ l. x ∷ l) (map_same xs)

-- each element of a printed array is read again
pub each-printed : {A : Type 0} (f : Data → Option A) (g : A → Data) → ((x : A) → f (g x) ≡ Some x) → (xs : List A)
    → option_and_then (λ ds. each f ds) (elements (array_value (map g xs))) ≡ Some xs
each-printed f g e xs =
    ap (λ ds. each f ds) (listed-items_of_list (map g xs)) ∙ each-map f g (λ x. x) e xs ∙ ap Some (map_same xs)

each_parts : {A : Type 0} (o : Option A) (r : Option (List A)) (x : A) (xs : List A)
    → option_and_then (λ y. option_and_then (λ ys. Some (y ∷ ys)) r) o ≡ Some (x ∷ xs) → (o ≡ Some x) × (r ≡ Some xs)
each_parts None r x xs e = cc
each_parts (Some y) None x xs e = cc
each_parts (Some y) (Some ys) x xs e = (cc, cc)

pub each_push : {A : Type 0} (f : Data → Option A) (g : A → Data) (xs : List A) (x : A)
    → each f (map g xs) ≡ Some xs → f (g x) ≡ Some x → each f (map g (xs ++ x ∷ [])) ≡ Some (xs ++ x ∷ [])
each_push f g [] x h e = rw e refl
each_push f g (y ∷ xs) x h e =
    let parts = each_parts (f (g y)) (each f (map g xs)) y xs h in
    rw (parts.0, each_push f g xs x parts.1 e) refl

pub numbers-array_value : (ns : List ℕ) → numbers (array_value (map number_value ns)) ≡ Some ns
numbers-array_value ns = each-printed whole_number number_value (λ n. refl) ns

pub taken_all : {A : Type 0} (xs : List A) (i : ℕ) → length xs ≤ i → take i xs ≡ xs
taken_all xs i h =
    sym (append-nil (take i xs)) ∙ ap (λ l. take i xs ++ l) (sym (drop_of_length-le xs h)) ∙ take-append-drop i xs

-- ---- lists of at least one element, and of at most so many

pub few_kept : {A : Type 0} (many : ℕ) (xs : List A) → 1 ≤ length xs → length xs ≤ many
    → when (nat_le 1 (length xs) && nat_le (length xs) many) (Some xs) ≡ Some xs
few_kept many xs some few =
    let least : nat_le 1 (length xs) ≡ true = grind (arith, nat_tests) in
    let most : nat_le (length xs) many ≡ true = grind (arith, nat_tests) in
    ap₂ (λ a b. when (a && b) (Some xs)) least most
