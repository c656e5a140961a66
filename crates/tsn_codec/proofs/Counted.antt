-- An object that has all of some keys, and no member of another name, has as many members as there are keys.
use Rattle.std.proofs.Common.{◌≡◌, ℕ, suc, List, [], ◌∷◌, length, map, Bool, true, false, not, Option, Some, None, refl, sym, ap, subst, ◌∙◌, arith, String, Global, string_bytes, Ordering, Less, Equal, Greater}
use Rattle.std.specs.Prelude.{find, is_none, nat_eq, cond, option_map, IsSome, ◌||◌}
use Rattle.std.specs.List.{list_any, IsDistinct, AllByRecursion}
use Rattle.std.specs.List.Sorted.{IsStrictlySortedBy}
use Rattle.std.specs.Ordering.{nat_cmp, eq_by_cmp, is_eq, match_ordering}
use Rattle.std.specs.Cmp.Lexicographic.{slice_cmp}
use Rattle.std.specs.Str.{bytes_eq}
use Rattle.std.specs.String.{string_cmp}
use Rattle.std.proofs.lemmas.Cmp.{eq_by_cmp_equiv, nat_list_cmp_total}
use Rattle.std.proofs.lemmas.Map.Keys.{IsDistinct-from_sorted}
use Rattle.std.proofs.lemmas.Map.Made.{length-from_same_keys}
use Rattle.std.proofs.lemmas.Map.Text.{is_eq-slice_cmp}
use Rattle.std.proofs.lemmas.Slice.Eq.{bytes_eq-Decides}
use Rattle.serde_json.specs.Data.{Data, null, boolean, number, string, array, object, Members, no_members, member}
use Rattle.serde_json.specs.Find.{get_member, as_object}
use Rattle.tsn_cert.specs.Json.{member_count, is_object_of}
use Rattle.tsn_cert.specs.Told.{key_name}
use Rattle.tsn_codec.specs.Matter.{member_names, absent_key, other_name, plan_keys, tree_keys, argument_keys}
use Rattle.tsn_cert.specs.declared.refused.Key.{Key}

abbrev same_name : List ℕ → List ℕ → Bool
same_name = eq_by_cmp (slice_cmp nat_cmp)

same_self : (x : List ℕ) → same_name x x ≡ true
same_self = (eq_by_cmp_equiv nat_list_cmp_total).refl

same_is : (x y : List ℕ) → same_name x y ≡ true → x ≡ y
same_is x y e = (bytes_eq-Decides x y).0 (sym (is_eq-slice_cmp x y) ∙ e)

-- ---- each name is a key

or_second : (a b : Bool) → b ≡ true → (a || b) ≡ true
or_second true b h = refl
or_second false b h = h

among_first : (k : Key) (ks : List Key) (q name : List ℕ) (b : Bool) → bytes_eq (key_name k) name ≡ b → q ≡ name
    → list_any (λ k. bytes_eq (key_name k) name) (k ∷ ks) ≡ true
    → (list_any (λ k. bytes_eq (key_name k) name) ks ≡ true → list_any (same_name q) (map key_name ks) ≡ true)
    → list_any (same_name q) (map key_name (k ∷ ks)) ≡ true
among_first k ks q name true is e h more =
    let same : q ≡ key_name k = e ∙ sym ((bytes_eq-Decides (key_name k) name).0 is) in
    let found : same_name q (key_name k) ≡ true = ap (same_name q) (sym same) ∙ same_self q in
    ap (λ b. b || list_any (same_name q) (map key_name ks)) found
among_first k ks q name false is e h more =
    or_second (same_name q (key_name k)) (list_any (same_name q) (map key_name ks))
    (more (sym (ap (λ b. b || list_any (λ k. bytes_eq (key_name k) name) ks) is) ∙ h))

among_keys : (keys : List Key) (q name : List ℕ) → q ≡ name → list_any (λ k. bytes_eq (key_name k) name) keys ≡ true
    → list_any (same_name q) (map key_name keys) ≡ true
among_keys [] q name e h = absurd (cc)
among_keys (k ∷ ks) q name e h = among_first k ks q name (bytes_eq (key_name k) name) refl e h (among_keys ks q name e)

abbrev is_other : List Key → List ℕ → Bool
is_other keys name = not (list_any (λ k. bytes_eq (key_name k) name) keys)

name_is_key : (keys : List Key) (n : List ℕ) (ns : List (List ℕ)) (q : List ℕ) (b s : Bool)
    → list_any (λ k. bytes_eq (key_name k) n) keys ≡ b → same_name q n ≡ s → find (is_other keys) (n ∷ ns) ≡ None
    → list_any (same_name q) (n ∷ ns) ≡ true
    → (find (is_other keys) ns ≡ None → list_any (same_name q) ns ≡ true → list_any (same_name q) (map key_name keys) ≡ true)
    → list_any (same_name q) (map key_name keys) ≡ true
name_is_key keys n ns q false s is e none h more =
    let found : Some n ≡ None = sym (ap (λ b. cond (not b) (Some n) (find (is_other keys) ns)) is) ∙ none in
    absurd (cc)
name_is_key keys n ns q true true is e none h more = among_keys keys q n (same_is q n e) is
name_is_key keys n ns q true false is e none h more =
    more (sym (ap (λ b. cond (not b) (Some n) (find (is_other keys) ns)) is) ∙ none) (sym (ap (λ b. b || list_any (same_name q) ns) e) ∙ h)

names_are_keys : (keys : List Key) (names : List (List ℕ)) (q : List ℕ) → find (is_other keys) names ≡ None → list_any (same_name q) names ≡ true
    → list_any (same_name q) (map key_name keys) ≡ true
names_are_keys keys [] q none h = absurd (cc)
names_are_keys keys (n ∷ ns) q none h =
    name_is_key keys n ns q (list_any (λ k. bytes_eq (key_name k) n) keys) (same_name q n) refl refl none h (names_are_keys keys ns q)

-- ---- each key is a name

first_named : (q name : List ℕ) (d : Data) (ms : Members) (o : Ordering) → slice_cmp nat_cmp q name ≡ o
    → is_none (get_member q (member name d ms)) ≡ false → (is_none (get_member q ms) ≡ false → list_any (same_name q) (member_names ms) ≡ true)
    → list_any (same_name q) (member_names (member name d ms)) ≡ true
first_named q name d ms Less e h more =
    or_second (same_name q name) (list_any (same_name q) (member_names ms))
    (more (sym (ap (λ o. is_none (match_ordering o (get_member q ms) (Some d) (get_member q ms))) e) ∙ h))
first_named q name d ms Equal e h more = ap (λ o. is_eq o || list_any (same_name q) (member_names ms)) e
first_named q name d ms Greater e h more =
    or_second (same_name q name) (list_any (same_name q) (member_names ms))
    (more (sym (ap (λ o. is_none (match_ordering o (get_member q ms) (Some d) (get_member q ms))) e) ∙ h))

named_member : (q : List ℕ) (ms : Members) → is_none (get_member q ms) ≡ false → list_any (same_name q) (member_names ms) ≡ true
named_member q no_members h = absurd (cc)
named_member q (member name d ms) h = first_named q name d ms (slice_cmp nat_cmp q name) refl h (named_member q ms)

key_is_name : (k : Key) (ks : List Key) (ms : Members) (q : List ℕ) (b s : Bool) → is_none (get_member (key_name k) ms) ≡ b
    → same_name q (key_name k) ≡ s → absent_key (k ∷ ks) (object ms) ≡ None → list_any (same_name q) (map key_name (k ∷ ks)) ≡ true
    → (absent_key ks (object ms) ≡ None → list_any (same_name q) (map key_name ks) ≡ true → list_any (same_name q) (member_names ms) ≡ true)
    → list_any (same_name q) (member_names ms) ≡ true
key_is_name k ks ms q true s is e none h more =
    let found : Some k ≡ None = sym (ap (λ b. cond b (Some k) (absent_key ks (object ms))) is) ∙ none in
    absurd (cc)
key_is_name k ks ms q false true is e none h more =
    ap (λ q. list_any (same_name q) (member_names ms)) (same_is q (key_name k) e) ∙ named_member (key_name k) ms is
key_is_name k ks ms q false false is e none h more =
    more (sym (ap (λ b. cond b (Some k) (absent_key ks (object ms))) is) ∙ none) (sym (ap (λ b. b || list_any (same_name q) (map key_name ks)) e) ∙ h)

keys_are_names : (keys : List Key) (ms : Members) (q : List ℕ) → absent_key keys (object ms) ≡ None → list_any (same_name q) (map key_name keys) ≡ true
    → list_any (same_name q) (member_names ms) ≡ true
keys_are_names [] ms q none h = absurd (cc)
keys_are_names (k ∷ ks) ms q none h =
    key_is_name k ks ms q (is_none (get_member (key_name k) ms)) (same_name q (key_name k)) refl refl none h (keys_are_names ks ms q)

-- ---- as many

both_true : (a b : Bool) → (a ≡ true → b ≡ true) → (b ≡ true → a ≡ true) → a ≡ b
both_true true b f g = sym (f refl)
both_true false true f g = g refl
both_true false false f g = refl

member_count-names : (ms : Members) → member_count ms ≡ length (member_names ms)
member_count-names no_members = refl
member_count-names (member name d ms) = ap suc (member_count-names ms)

length-keys : (keys : List Key) → length (map key_name keys) ≡ length keys
length-keys [] = refl
length-keys (k ∷ ks) = ap suc (length-keys ks)

below_names : (k : String Global) (ks : List (String Global)) → AllByRecursion (λ y. string_cmp k y ≡ Less) ks
    → AllByRecursion (λ y. slice_cmp nat_cmp (string_bytes k) y ≡ Less) (map string_bytes ks)
below_names k [] h = tt
below_names k (l ∷ ks) h = (h.0, below_names k ks h.1)

sorted_names : (ks : List (String Global)) → IsStrictlySortedBy string_cmp ks → IsStrictlySortedBy (slice_cmp nat_cmp) (map string_bytes ks)
unfolding IsStrictlySortedBy
sorted_names [] h = tt
sorted_names (k ∷ ks) h = (below_names k ks h.0, sorted_names ks h.1)

nat_same : (n : ℕ) → nat_eq n n ≡ true
nat_same n = grind arith

-- an object whose names are these, in order, has none but the keys
pub counted : (keys : List Key) (d : Data) (names : List (String Global)) → IsDistinct same_name (map key_name keys)
    → IsStrictlySortedBy string_cmp names → (ms : Members) → Some ms ≡ as_object d → member_names ms ≡ map string_bytes names
    → absent_key keys d ≡ None → other_name keys d ≡ None → is_object_of (length keys) d ≡ true
counted keys null names distinct sorted ms is same all none = absurd (cc)
counted keys (boolean b) names distinct sorted ms is same all none = absurd (cc)
counted keys (number n) names distinct sorted ms is same all none = absurd (cc)
counted keys (string s) names distinct sorted ms is same all none = absurd (cc)
counted keys (array ds) names distinct sorted ms is same all none = absurd (cc)
counted keys (object os) names distinct sorted ms is same all none =
    let them : ms ≡ os = cc in
    let named : map string_bytes names ≡ member_names os = sym same ∙ ap member_names them in
    let apart : IsDistinct same_name (member_names os) =
    subst (IsDistinct same_name) named (IsDistinct-from_sorted (slice_cmp nat_cmp) (map string_bytes names) (sorted_names names sorted)) in
    let many : length (member_names os) ≡ length (map key_name keys) =
    length-from_same_keys (eq_by_cmp_equiv nat_list_cmp_total) (member_names os) (map key_name keys) apart distinct
    (λ q. both_true _ _ (names_are_keys keys (member_names os) q none) (keys_are_names keys os q all)) in
    ap (λ n. nat_eq n (length keys)) (member_count-names os ∙ many ∙ length-keys keys) ∙ nat_same (length keys)

-- an object of another count of members has one of another name
pub some_other : {X : Type 0} (keys : List Key) (d : Data) (names : List (String Global)) (ms : Members) (f : X → List ℕ) (found : Option X)
    → Some ms ≡ as_object d → member_names ms ≡ map string_bytes names → IsStrictlySortedBy string_cmp names → option_map f found ≡ other_name keys d
    → IsDistinct same_name (map key_name keys) → absent_key keys d ≡ None → is_object_of (length keys) d ≡ false → IsSome found
some_other keys d names ms f None is same sorted none distinct all short =
    let full = counted keys d names distinct sorted ms is same all (sym none) in
    let bad : false ≡ true = sym short ∙ full in
    absurd (cc)
some_other keys d names ms f (Some x) is same sorted none distinct all short = refl

-- ---- the keys of files

pub plan_apart : IsDistinct same_name (map key_name plan_keys)
unfolding IsDistinct
plan_apart = ((refl, tt), (tt, tt))

pub tree_apart : IsDistinct same_name (map key_name tree_keys)
unfolding IsDistinct
tree_apart = ((refl, (refl, tt)), ((refl, tt), (tt, tt)))

pub argument_apart : IsDistinct same_name (map key_name argument_keys)
unfolding IsDistinct
argument_apart = ((refl, (refl, (refl, tt))), ((refl, (refl, tt)), ((refl, tt), (tt, tt))))
