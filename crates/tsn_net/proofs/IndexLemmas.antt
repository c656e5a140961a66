-- What an index holds after one more element is entered.
use Rattle.std.proofs.Common.{◌≡◌, ℕ, zero, suc, ◌+◌, ◌<◌, ◌≤◌, Bool, true, false, ◌||◌, cond, List, [], ◌∷◌, ◌++◌, length, map, take, get_or, position, Option, Some, None, refl, ap, sym, ◌∙◌, arith, add-zero, length-take, lt-ltb, le-ltb}
use Rattle.std.specs.Prelude.{nat_lt, is_some, ◌&&◌}
use Rattle.std.specs.List.{position_from, list_any}
use Rattle.std.specs.Option.{option_or}
use Rattle.std.proofs.Math.Bool.{and_comm, or-false}
use Rattle.std.proofs.lemmas.List.{take_more, map-append}
use Rattle.std.proofs.lemmas.List.Folds.{list_any-append}
use Rattle.std.proofs.lemmas.Iterator.Adapters.{position_from-zero}
use Rattle.toml.specs.Data.{Data}
use Rattle.toml.specs.View.{view}
use Rattle.toml.specs.declared.value.Value.{Value}
use Rattle.std.specs.Str.{bytes_eq}
use Rattle.tsn_net.specs.declared.schema.Key.TheVariants as key
use Rattle.tsn_net.specs.Document.{text_at}
use Rattle.tsn_net.specs.Conditions.{has_name, joins}
use Rattle.tsn_net.specs.Index.{below}
use Rattle.tsn_net.proofs.MatterLemmas.{position_any}
use Rattle.tsn_net.proofs.ProblemLemmas.{position-map}

cases_or : {A : Type 0} (b : Bool) (x : A) (r s t : Option A) → r ≡ option_or s t → cond b (Some x) r ≡ option_or (cond b (Some x) s) t
cases_or true x r s t h = refl
cases_or false x r s t h = h

from_push : {A : Type 0} (p : A → Bool) (xs : List A) (x : A) (i : ℕ)
    → position_from p i (xs ++ x ∷ []) ≡ option_or (position_from p i xs) (cond (p x) (Some (i + length xs)) None)
from_push p [] x i = ap (λ n. cond (p x) (Some n) None) (sym (add-zero i))
from_push p (y ∷ ys) x i =
    let further : (i + 1) + length ys ≡ i + length (y ∷ ys) = omega arith in
    cases_or (p y) i (position_from p (i + 1) (ys ++ x ∷ [])) (position_from p (i + 1) ys) (cond (p x) (Some (i + length (y ∷ ys))) None)
    (from_push p ys x (i + 1) ∙ ap (λ n. option_or (position_from p (i + 1) ys) (cond (p x) (Some n) None)) further)

-- the first place among elements and one more
position-push : {A : Type 0} (p : A → Bool) (xs : List A) (x : A)
    → position p (xs ++ x ∷ []) ≡ option_or (position p xs) (cond (p x) (Some (length xs)) None)
position-push p xs x =
    let more : 0 + length xs ≡ length xs = omega arith in
    position_from-zero p (xs ++ x ∷ []) ∙ from_push p xs x 0
    ∙ (λ j. option_or (sym (position_from-zero p xs) j) (cond (p x) (Some (more j)) None))

-- what is the first place among those before, or else this one, is the first among both
pub first_more : {A : Type 0} (p : A → Bool) (xs : List A) (i : ℕ) (x : A) (r s : Option ℕ) → i < length xs → x ≡ get_or xs i x
    → r ≡ position p (take i xs) → s ≡ option_or r (cond (p x) (Some i) None) → s ≡ position p (take (i + 1) xs)
first_more p xs i x r s h is before after =
    let shorter : length (take i xs) ≡ i = omega (arith, length-take i xs) in
    after ∙ ap (λ o. option_or o (cond (p x) (Some i) None)) before
    ∙ sym (ap (position p) (take_more xs i x h ∙ ap (λ y. take i xs ++ y ∷ []) (sym is)) ∙ position-push p (take i xs) x
    ∙ ap (λ n. option_or (position p (take i xs)) (cond (p x) (Some n) None)) shorter)

none_below : {A : Type 0} (p : A → Bool) (xs : List A) (i end : ℕ) → end ≤ i → below end (position_from p i xs) ≡ None
none_below p [] i end h = refl
none_below p (x ∷ xs) i end h =
    cases (p x) (position_from p (i + 1) xs) (ap (λ b. cond b (Some i) None) (le-ltb i end h)) (none_below p xs (i + 1) end (omega arith))
  where
    cases : (b : Bool) (r : Option ℕ) → below end (Some i) ≡ None → below end r ≡ None → below end (cond b (Some i) r) ≡ None
    cases true r here there = here
    cases false r here there = there

cases_below : (b : Bool) (i end : ℕ) (r s : Option ℕ) → nat_lt i end ≡ true → below end r ≡ s
    → below end (cond b (Some i) r) ≡ cond b (Some i) s
cases_below true i end r s here there = ap (λ c. cond c (Some i) None) here
cases_below false i end r s here there = there

from_below : {A : Type 0} (p : A → Bool) (xs : List A) (i n : ℕ) → below (i + n) (position_from p i xs) ≡ position_from p i (take n xs)
from_below p xs i zero = none_below p xs i (i + 0) (omega arith)
from_below p [] i (suc n) = refl
from_below p (x ∷ xs) i (suc n) =
    let within : i < i + suc n = omega arith in
    let further : i + suc n ≡ (i + 1) + n = omega arith in
    cases_below (p x) i (i + suc n) (position_from p (i + 1) xs) (position_from p (i + 1) (take n xs)) (lt-ltb i (i + suc n) within)
    (ap (λ e. below e (position_from p (i + 1) xs)) further ∙ from_below p xs (i + 1) n)

-- the first place, where it is before an end, is the first among those before the end
pub position_before : {A : Type 0} (p : A → Bool) (xs : List A) (n : ℕ) → below n (position p xs) ≡ position p (take n xs)
position_before p xs n =
    let same : n ≡ 0 + n = omega arith in
    (λ j. below (same j) (position_from-zero p xs j)) ∙ from_below p xs 0 n ∙ sym (position_from-zero p (take n xs))

-- the same of tables, which are seen
pub first_table : (p : Data → Bool) (vs : List Value) (i : ℕ) (v : Value) (r s : Option ℕ) → i < length vs → v ≡ get_or vs i v
    → r ≡ position p (map view (take i vs)) → s ≡ option_or r (cond (p (view v)) (Some i) None)
    → s ≡ position p (map view (take (i + 1) vs))
first_table p vs i v r s h is before after =
    first_more (λ w. p (view w)) vs i v r s h is (before ∙ position-map p view (take i vs)) after
    ∙ sym (position-map p view (take (i + 1) vs))

-- what holds of a table before, or of this one, does of one of them
pub any_table : (p : Data → Bool) (vs : List Value) (i : ℕ) (v : Value) (r s : Bool) → i < length vs → v ≡ get_or vs i v
    → r ≡ list_any p (map view (take i vs)) → s ≡ (r || p (view v)) → s ≡ list_any p (map view (take (i + 1) vs))
any_table p vs i v r s h is before after =
    after ∙ ap (λ b. b || p (view v)) before
    ∙ sym (ap (list_any p)
    (ap (map view) (take_more vs i v h ∙ ap (λ w. take i vs ++ w ∷ []) (sym is)) ∙ map-append view (take i vs) (v ∷ []))
    ∙ list_any-append p (map view (take i vs)) (view v ∷ []) ∙ ap (λ b. list_any p (map view (take i vs)) || b) (or-false (p (view v))))

-- the first of the tables before one that has its name
pub named_before : (vs : List Value) (i : ℕ) (name other : List ℕ) (r : Option ℕ)
    → r ≡ below i (position (λ t. bytes_eq name (text_at key.Name t)) (map view vs))
    → name ≡ other
    → (position (λ t. bytes_eq other (text_at key.Name t)) (take i (map view vs)) ≡ r) × (is_some r ≡ has_name (take i (map view vs)) other)
named_before vs i name other r found same =
    let P : List Data → List ℕ → Option ℕ = λ ts n. position (λ t. bytes_eq n (text_at key.Name t)) ts in
    let at : P (take i (map view vs)) other ≡ r =
    sym (found ∙ position_before (λ t. bytes_eq name (text_at key.Name t)) (map view vs) i ∙ ap (P (take i (map view vs))) same) in
    (at, sym (ap is_some at) ∙ position_any (λ t. bytes_eq other (text_at key.Name t)) (take i (map view vs)))

-- the first of the cables before one that joins its nodes
pub joined_before : (vs : List Value) (i : ℕ) (a b x y : List ℕ) (r : Option ℕ)
    → r ≡ below i (position (joins a b) (map view vs)) → a ≡ x → b ≡ y
    → (position (joins x y) (take i (map view vs)) ≡ r) × (is_some r ≡ list_any (joins x y) (take i (map view vs)))
joined_before vs i a b x y r found first second =
    let at : position (joins x y) (take i (map view vs)) ≡ r =
    sym (found ∙ position_before (joins a b) (map view vs) i ∙ (λ j. position (joins (first j) (second j)) (take i (map view vs)))) in
    (at, sym (ap is_some at) ∙ position_any (joins x y) (take i (map view vs)))

-- a cable that is entered by its names in one order and in the other
pub both_orders : (before : Option ℕ) (p q s t : Bool) (k : ℕ)
    → option_or (option_or before (cond (p && q) (Some k) None)) (cond (t && s) (Some k) None) ≡ option_or before
    (cond ((p && q) || (s && t)) (Some k) None)
both_orders (Some n) p q s t k = refl
both_orders None true true s t k = refl
both_orders None true false s t k = ap (λ b. cond b (Some k) None) (and_comm t s)
both_orders None false q s t k = ap (λ b. cond b (Some k) None) (and_comm t s)

-- the name of a table, entered where a test holds of the table
pub entered : (before named holds : Bool) → holds ≡ true → cond named true before ≡ (before || (named && holds))
entered true true holds h = refl
entered true false holds h = refl
entered false true holds h = sym h
entered false false holds h = refl

-- left out where it doesn't
pub left_out : (before named holds : Bool) → holds ≡ false → before ≡ (before || (named && holds))
left_out true named holds h = refl
left_out false true holds h = sym h
left_out false false holds h = refl
