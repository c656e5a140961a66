-- What a reader answers, and loops that print the elements of an array.
use Rattle.std.proofs.Common.{◌≡◌, ◌≤◌, ℕ, List, [], ◌∷◌, length, map, Bool, true, false, Option, Some, None, Ok, Err, OnOk, refl, sym, ap, ◌∙◌, arith, Vec, Ordering, Less, Equal, Greater}
use Rattle.std.specs.Prelude.{suc, max, nat_eq, Result, option_map, unwrap_or, String}
use Rattle.std.specs.declared.alloc.Global.{Global}
use Rattle.std.specs.Str.{IsUtf8, is_utf8}
use Rattle.std.proofs.lemmas.Str.{IsUtf8-from_is_utf8}
use Rattle.std.proofs.lemmas.List.{length-map}
use Rattle.std.specs.Ordering.{nat_cmp, match_ordering}
use Rattle.std.specs.Cmp.Lexicographic.{slice_cmp}
use Rattle.serde_json.specs.Data.{Data, null, boolean, number, string, array, object, item, Members, no_members, member, depth, members_depth}
use Rattle.serde_json.specs.Read.{read}
use Rattle.serde_json.specs.Find.{as_object, get, get_member}
use Rattle.serde_json.specs.View.{view, items_of, members_of, members_view}
use Rattle.serde_json.specs.declared.value.Value.{Value, Array}
use Rattle.serde_json.proofs.Views.{view-Array}
use Rattle.tsn_cert.specs.Json.{when, value_of, member_count, is_object_of, items_of_list, array_value}
use Rattle.tsn_cert.specs.Fault.{named, shaped, answer, FaultGiven}
use Rattle.tsn_cert.specs.declared.fault.FileFault.{FileFault}
use Rattle.tsn_cert.specs.declared.fault.FileFault.TheVariants.{NotJson, WrongShape, NumberTooLarge, Memory}

when_none : {A : Type 0} (b : Bool) (o : Option A) → (b ≡ true → o ≡ None) → when b o ≡ None
when_none true o h = h refl
when_none false o h = refl

pub value_of-refused : (bytes : List ℕ) → (IsUtf8 bytes → read bytes ≡ None) → value_of bytes ≡ None
value_of-refused bytes h = when_none (is_utf8 bytes) (read bytes) (λ e. h (IsUtf8-from_is_utf8 bytes e))

-- ---- a reader's answer

pub named_ok : {A : Type 0} (fault : FileFault) (o : Option A) (x : A) → named fault o ≡ Ok x → o ≡ Some x
named_ok fault None x e = cc
named_ok fault (Some y) x e = cc

-- ---- a whole file's answer

pub answer_read : {D A : Type 0} (grammar : D → Option A) (fits : A → Bool) (o : Option D) (d : D) (x : A)
    → named NotJson o ≡ Ok d → named WrongShape (grammar d) ≡ Ok x → answer grammar fits o ≡ shaped fits (Some x)
answer_read grammar fits o d x e h =
    ap (answer grammar fits) (named_ok NotJson o d e) ∙ ap (shaped fits) (named_ok WrongShape (grammar d) x h)

pub answer_ok : {D A : Type 0} (grammar : D → Option A) (fits : A → Bool) (o : Option D) (d : D) (x : A)
    → named NotJson o ≡ Ok d → named WrongShape (grammar d) ≡ Ok x → true ≡ fits x → answer grammar fits o ≡ Ok x
answer_ok grammar fits o d x e h within =
    let holds = sym within in
    answer_read grammar fits o d x e h ∙ rw holds refl

pub answer_large : {D A : Type 0} (grammar : D → Option A) (fits : A → Bool) (o : Option D) (d : D) (x : A)
    → named NotJson o ≡ Ok d → named WrongShape (grammar d) ≡ Ok x → false ≡ fits x → answer grammar fits o ≡ Err NumberTooLarge
answer_large grammar fits o d x e h within =
    let fails = sym within in
    answer_read grammar fits o d x e h ∙ rw fails refl

shaped_fault : {A : Type 0} (fits : A → Bool) (e : FileFault) (o : Option A) → FaultGiven e (named WrongShape o) → FaultGiven e (shaped fits o)
shaped_fault fits Memory o f = tt
shaped_fault fits WrongShape None f = refl
shaped_fault fits WrongShape (Some y) f = cc
shaped_fault fits NotJson None f = cc
shaped_fault fits NotJson (Some y) f = cc
shaped_fault fits NumberTooLarge None f = cc
shaped_fault fits NumberTooLarge (Some y) f = cc

pub answer_fault : {D A : Type 0} (grammar : D → Option A) (fits : A → Bool) (o : Option D) (d : D) (e : FileFault)
    → named NotJson o ≡ Ok d → FaultGiven e (named WrongShape (grammar d)) → FaultGiven e (answer grammar fits o)
answer_fault grammar fits o d e is f =
    let some = named_ok NotJson o d is in
    rw some (shaped_fault fits e (grammar d) f)

-- ---- the members of an object

member_count-members_of : (ms : List (String Global × Data)) → member_count (members_of ms) ≡ length ms
member_count-members_of [] = refl
member_count-members_of (m ∷ ms) = ap suc (member_count-members_of ms)

pub is_object_of-members_view : (n len : ℕ) (ms : List (String Global × Value)) (d : Data)
    → len ≡ length ms → Some (members_view ms) ≡ as_object d → nat_eq len n ≡ is_object_of n d
is_object_of-members_view n len ms d counted e =
    ap (λ k. nat_eq k n) (counted ∙ sym (member_count-members_of (map (λ m. (m.0, view m.1)) ms) ∙ length-map ms (λ m. (m.0, view m.1))))
    ∙ ap (λ o. unwrap_or (option_map (λ ms. nat_eq (member_count ms) n) o) false) e

-- ---- a loop that prints each number

pub items_of-items_of_list : (ds : List Data) → items_of ds ≡ items_of_list ds
items_of-items_of_list [] = refl
items_of-items_of_list (d ∷ ds) = ap (item d) (items_of-items_of_list ds)

-- all elements were printed
pub view-printed : (v : Vec Value Global) (ds : List Data) → map view v.items ≡ ds → view (Array v) ≡ array_value ds
view-printed v ds e = view-Array v ∙ ap array (ap items_of e ∙ items_of-items_of_list ds)

-- what holds anyway holds of a result that is there
pub back : {A E R : Type 0} (r : Result A E) → R → OnOk r R
back (Err e) x = tt
back (Ok v) x = x

-- ---- how deep a member is

member_depth : (o : Ordering) (x d : Data) (r : Option Data) (m : ℕ) → match_ordering o r (Some x) r ≡ Some d → (r ≡ Some d → depth d ≤ m)
    → depth d ≤ max (depth x) m
member_depth Less x d r m e h = omega (arith, h e)
member_depth Equal x d r m e h = let same : x ≡ d = cc in omega (arith, ap depth same)
member_depth Greater x d r m e h = omega (arith, h e)

get_member_depth : (k : List ℕ) (ms : Members) (d : Data) → get_member k ms ≡ Some d → depth d ≤ members_depth ms
get_member_depth k no_members d e = absurd (cc)
get_member_depth k (member l x ms) d e = member_depth (slice_cmp nat_cmp k l) x d (get_member k ms) (members_depth ms) e (get_member_depth k ms d)

pub get_depth : (k : List ℕ) (v d : Data) → get k v ≡ Some d → depth d ≤ depth v
get_depth k null d e = absurd (cc)
get_depth k (boolean b) d e = absurd (cc)
get_depth k (number n) d e = absurd (cc)
get_depth k (string s) d e = absurd (cc)
get_depth k (array ds) d e = absurd (cc)
get_depth k (object ms) d e = omega (arith, get_member_depth k ms d e)
