-- What a test finds, and whether it finds something.
use Rattle.std.proofs.Common.{◌≡◌, ℕ, ◌+◌, ◌≤◌, Bool, true, false, not, ◌||◌, ◌&&◌, List, [], ◌∷◌, map, position, Option, Some, None, option_map, String, BTreeMap, Global, string_bytes, refl, ap, sym, ◌∙◌, arith}
use Rattle.std.specs.Prelude.{is_some, is_none, cond, IfSome, ◌==◌, nat_lt}
use Rattle.std.proofs.lemmas.Bool.Decides.{nat_tests}
use Rattle.std.specs.List.{list_any, list_all, find, position_from}
use Rattle.std.specs.BTreeMap.{keys}
use Rattle.std.proofs.lemmas.Iterator.Adapters.{position_from-zero}
use Rattle.toml.specs.Data.{Data, get, as_table}
use Rattle.toml.specs.View.{members_view, table_view}
use Rattle.toml.specs.declared.value.Value.{Value}
use Rattle.std.specs.Str.{bytes_eq}
use Rattle.tsn_net.specs.declared.schema.Key.{Key}
use Rattle.tsn_net.specs.declared.schema.Key.TheVariants as key
use Rattle.tsn_net.specs.declared.schema.Table.{Table}
use Rattle.tsn_net.specs.declared.schema.Table.TheVariants as tables
use Rattle.tsn_net.specs.Schema.{name_of, required, known, is_table, holds_at, has_kind, member_keys, keys_in, misses_key, has_wrong_kind, has_unknown_key}
use Rattle.tsn_net.specs.Document.{Document, text_at, table_at, value_at}
use Rattle.tsn_model.specs.declared.fault.Code.TheVariants.{Limit}
use Rattle.tsn_model.specs.declared.fault.Place.{Place}
use Rattle.tsn_net.specs.declared.matter.Matter.{Matter}
use Rattle.tsn_net.specs.declared.matter.Matter.TheVariants as matter
use Rattle.tsn_net.specs.Conditions.{is_name, routes_of, node_breaks_limit, cable_breaks_limit, stream_breaks_limit, routes_break_limit, is_no_way}
use Rattle.tsn_net.specs.Matter.{absent_key, amiss_key, other_key, is_in_range, breaks_key_limit, matter_code, IsOfTable, IsOfRoute, IsOfRoutes, IsMatter}
use Rattle.tsn_net.proofs.DocumentLemmas.{keys_in-table}

cases_found : {A : Type 0} (b : Bool) (x : A) (rest : Option A) (any : Bool) → is_some rest ≡ any → is_some (cond b (Some x) rest) ≡ (b || any)
cases_found true x rest any h = refl
cases_found false x rest any h = h

-- something is found where an element passes
pub found_any : {A : Type 0} (p : A → Bool) (xs : List A) → is_some (find p xs) ≡ list_any p xs
found_any p [] = refl
found_any p (x ∷ xs) = cases_found (p x) x (find p xs) (list_any p xs) (found_any p xs)

cases_amiss : {A : Type 0} (b : Bool) (x : A) (rest : Option A) (all : Bool) → is_some rest ≡ not all → is_some (cond (not b) (Some x) rest) ≡ not (b && all)
cases_amiss true x rest all h = h
cases_amiss false x rest all h = refl

-- something that fails is found where not all pass
pub found_amiss : {A : Type 0} (p : A → Bool) (xs : List A) → is_some (find (λ x. not (p x)) xs) ≡ not (list_all p xs)
found_amiss p [] = refl
found_amiss p (x ∷ xs) = cases_amiss (p x) x (find (λ y. not (p y)) xs) (list_all p xs) (found_amiss p xs)

cases_map : {A B : Type 0} (b : Bool) (f : A → B) (x : A) (r : Option B) (s : Option A) → r ≡ option_map f s
    → cond b (Some (f x)) r ≡ option_map f (cond b (Some x) s)
cases_map true f x r s h = refl
cases_map false f x r s h = h

pub find-map : {A B : Type 0} (p : B → Bool) (f : A → B) (xs : List A) → find p (map f xs) ≡ option_map f (find (λ x. p (f x)) xs)
find-map p f [] = refl
find-map p f (x ∷ xs) = cases_map (p (f x)) f x (find p (map f xs)) (find (λ y. p (f y)) xs) (find-map p f xs)

from_any : {A : Type 0} (p : A → Bool) (xs : List A) (i : ℕ) → is_some (position_from p i xs) ≡ list_any p xs
from_any p [] i = refl
from_any p (x ∷ xs) i = cases_found (p x) i (position_from p (i + 1) xs) (list_any p xs) (from_any p xs (i + 1))

-- there is a first index where an element passes
pub position_any : {A : Type 0} (p : A → Bool) (xs : List A) → is_some (position p xs) ≡ list_any p xs
position_any p xs = ap is_some (position_from-zero p xs) ∙ from_any p xs 0

from_amiss : {A : Type 0} (p : A → Bool) (xs : List A) (i : ℕ) → is_some (position_from (λ x. not (p x)) i xs) ≡ not (list_all p xs)
from_amiss p [] i = refl
from_amiss p (x ∷ xs) i = cases_amiss (p x) i (position_from (λ y. not (p y)) (i + 1) xs) (list_all p xs) (from_amiss p xs (i + 1))

-- there is a first index of one that fails where not all pass
pub position_amiss : {A : Type 0} (p : A → Bool) (xs : List A) → is_some (position (λ x. not (p x)) xs) ≡ not (list_all p xs)
position_amiss p xs = ap is_some (position_from-zero (λ x. not (p x)) xs) ∙ from_amiss p xs 0

pub none_of : {A : Type 0} (x : Option A) → is_some x ≡ false → x ≡ None
none_of None h = refl
none_of (Some a) h = cc

-- neither of two is there
pub neither : {A B : Type 0} (x : Option A) (y : Option B) → (is_some x || is_some y) ≡ false → (x ≡ None) × (y ≡ None)
neither None None h = (refl, refl)
neither None (Some b) h = cc
neither (Some a) y h = cc

member_keys-view : (es : List (String Global × Value)) → member_keys (members_view es) ≡ map string_bytes (map (λ e. e.0) es)
member_keys-view [] = refl
member_keys-view (e ∷ es) = ap (λ ks. string_bytes e.0 ∷ ks) (member_keys-view es)

-- the keys of a table
pub keys_in-view : (d : Data) (m : BTreeMap (String Global) Value) → Some (table_view m) ≡ as_table d → keys_in d ≡ map string_bytes (keys m)
keys_in-view d m h = keys_in-table d (table_view m) h ∙ member_keys-view m.entries

either_key : {K : Type 0} (a b : Bool) (j k : K) → is_some (cond a (Some j) (cond b (Some k) None)) ≡ (a || b)
either_key true b j k = refl
either_key false true j k = refl
either_key false false j k = refl

two_keys : {K : Type 0} (a b : Bool) (j k : K) → (is_some (cond a (Some j) None) || is_some (cond b (Some k) None)) ≡ (a || b)
two_keys true b j k = refl
two_keys false true j k = refl
two_keys false false j k = refl

three_keys : {K : Type 0} (a b c : Bool) (i j k : K) → (is_some (cond a (Some i) (cond b (Some j) None)) || is_some (cond c (Some k) None))
    ≡ ((a || b) || c)
three_keys true b c i j k = refl
three_keys false true c i j k = refl
three_keys false false true i j k = refl
three_keys false false false i j k = refl

stream_keys : {K : Type 0} (a b c d e f g : Bool) (h i j k l m n : K)
    → (is_some (cond a (Some h) None)
    || is_some (cond b (Some i) (cond c (Some j) (cond d (Some k) (cond e (Some l) (cond f (Some m) (cond g (Some n) None)))))))
    ≡ ((((((a || b) || c) || d) || e) || f) || g)
stream_keys true b c d e f g h i j k l m n = refl
stream_keys false true c d e f g h i j k l m n = refl
stream_keys false false true d e f g h i j k l m n = refl
stream_keys false false false true e f g h i j k l m n = refl
stream_keys false false false false true f g h i j k l m n = refl
stream_keys false false false false false true g h i j k l m n = refl
stream_keys false false false false false false true h i j k l m n = refl
stream_keys false false false false false false false h i j k l m n = refl

-- a table breaks a limit where a name or a number at a key of it does
pub top-breaks : (d : Data) → breaks_key_limit tables.Top d ≡ (not (is_in_range key.Cycle d) || not (is_in_range key.Slack d))
top-breaks d = either_key (not (is_in_range key.Cycle d)) (not (is_in_range key.Slack d)) key.Cycle key.Slack

pub node-breaks : (d : Data) → breaks_key_limit tables.Node d ≡ node_breaks_limit d
node-breaks d = two_keys (not (is_name (text_at key.Name d))) (not (is_in_range key.Proc d)) key.Name key.Proc

pub cable-breaks : (d : Data) → breaks_key_limit tables.Cable d ≡ cable_breaks_limit d
cable-breaks d = three_keys (not (is_name (text_at key.A d))) (not (is_name (text_at key.B d))) (not (is_in_range key.Prop d)) key.A key.B key.Prop

pub stream-breaks : (d : Data) → (breaks_key_limit tables.Stream d || routes_break_limit (routes_of d)) ≡ stream_breaks_limit d
stream-breaks d =
    let out : Key → Bool = λ k. not (is_in_range k d) in
    ap (λ b. b || routes_break_limit (routes_of d))
    (stream_keys (not (is_name (text_at key.Name d))) (out key.Octets) (out key.Release) (out key.Latest) (out key.Period) (out key.Frames) (out key.Offset)
    key.Name key.Octets key.Release key.Latest key.Period key.Frames key.Offset)

-- what misses a key, has one with a value of another kind, or one that isn't written
pub missing-found : (t : Table) (d : Data) (r : Option Key) → is_table d ≡ true → absent_key t d ≡ r → is_some r ≡ misses_key t d
missing-found t d r is found = sym (ap is_some found) ∙ found_any (λ k. is_none (get (name_of k) d)) (required t d) ∙ rw is

pub amiss-found : (t : Table) (d : Data) (r : Option Key) → is_table d ≡ true → amiss_key t d ≡ r → is_some r ≡ has_wrong_kind t d
amiss-found t d r is found = sym (ap is_some found) ∙ found_any (λ k. holds_at k (λ v. not (has_kind k v)) d) (known t d) ∙ rw is

pub other-found : (t : Table) (d : Data) (r : Option (List ℕ)) → r ≡ other_key t d → is_some r ≡ has_unknown_key t d
other-found t d r found = ap is_some found ∙ found_any (λ name. not (list_any (λ k. bytes_eq (name_of k) name) (known t d))) (keys_in d)

of_table : (d : Document) (p : Place) (m : Matter) → IsOfTable (table_at p) (value_at d p) m → IsMatter d p m
of_table d p (matter.NoName k text) h = h
of_table d p (matter.OutOfRange k number) h = h
of_table d p (matter.RouteCount count) h = h
of_table d p (matter.LongRoute count) h = h
of_table d p (matter.NoRouteName text) h = h
of_table d p matter.ManyLinks h = h
of_table d p _ h = absurd h

-- what breaks a limit of a table is the matter at its place
pub limited : (d : Document) (p : Place) (r : Option Matter) → IfSome r (λ m. (matter_code m ≡ Limit) × IsOfTable (table_at p) (value_at d p) m)
    → IfSome r (λ m. (matter_code m ≡ Limit) × IsMatter d p m)
limited d p None h = tt
limited d p (Some m) h = (h.0, of_table d p m h.1)

-- what is the matter with a route by itself is so of the routes
pub of_routes : (nodes : List Data) (routes : List (List (List ℕ))) (m : Matter)
    → (route : List (List ℕ)) × (find (is_no_way nodes) routes ≡ Some route) × IsOfRoute nodes route m → IsOfRoutes nodes routes m
of_routes nodes routes (matter.OtherTalker name other) h = absurd h.2
of_routes nodes routes (matter.SecondEntry name from other) h = absurd h.2
of_routes nodes routes (matter.GivenTwice names) h = absurd h.2
of_routes nodes routes _ h = h

pub right_count : (n : ℕ) → (n ≡ 0 → ⊥) → n ≤ 32 → (n == 0 || nat_lt 32 n) ≡ false
right_count n some few =
    let first : (n == 0) ≡ false = grind (arith, nat_tests) in
    let second : nat_lt 32 n ≡ false = grind (arith, nat_tests) in
    rw (first, second)
