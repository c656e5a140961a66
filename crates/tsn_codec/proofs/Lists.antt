-- Lists that stop at an element of another form.
use Rattle.std.proofs.Common.{◌≡◌, ◌<◌, ◌≤◌, ◌-◌, ℕ, zero, suc, List, [], ◌∷◌, ◌++◌, length, map, Option, Some, None, refl, sym, ap, ◌∙◌, append_assoc, append-nil, subst, arith, lit≤, Result, Ok, Err, Vec}
use Rattle.std.specs.Prelude.{option_and_then, option_map}
use Rattle.std.specs.declared.alloc.Global.{Global}
use Rattle.json.specs.Token.{Token}
use Rattle.json.specs.Token as token
use Rattle.json.specs.Json as json
use Rattle.json.specs.Lex.{tokens}
use Rattle.json.specs.Json.{Parse, parse_map, after_end_array, items, members, value, value_with, if_last}
use Rattle.json.proofs.Grammar.{left, skip_value-shorter, items_fail, items_more, value-begin_array}
use Rattle.serde_json.specs.Data.{Data, Items, item, array, object, number, string, boolean, null, no_members}
use Rattle.serde_json.specs.Read.{of_json, of_items, of_members, number_of, converted, read}
use Rattle.tsn_cert.specs.Json.{listed, elements, each}
use Rattle.tsn_cert.specs.Form.{Form, list, many, elements_taken, after_begin_array}
use Rattle.tsn_cert.specs.Says.{value_read, Says}
use Rattle.tsn_cert.proofs.Many.{many_more}
use Rattle.tsn_cert.proofs.SpelledLemmas.{with_item, converted-array}
use Rattle.tsn_cert.proofs.Says.{list_says}
use Rattle.tsn_codec.specs.declared.list.Unlisted.{Unlisted}
use Rattle.tsn_codec.specs.declared.list.Unlisted.TheVariants.{NoArray, Behind, Memory}
use Rattle.tsn_codec.specs.Takes.{FaultOf}
use Rattle.tsn_codec.proofs.Pairs.{both_same, never_some}
use Rattle.std.specs.Prelude.{is_some, slice_get}
use Rattle.std.proofs.lemmas.List.{length-map}
use Rattle.tsn_codec.specs.Matter.{IsFirstOther, IsFirstWithout}
use Rattle.tsn_codec.proofs.Firsts.{passing, placed_first}
use Rattle.tsn_codec.specs.Lists.{Stops, StopsAt, TakesElements, TakesList, ReadsList, unread}

-- ---- a list that stops is none

stops_many : {A : Type 0} (p : Parse A) (xs : List A) (n : ℕ) (ts : List Token) → Stops p xs ts → many p n ts ≡ None
unfolding many
stops_many p xs zero ts s = refl
stops_many p [] (suc n) ts s = many_more p n ts s.0 ∙ ap (λ o. option_and_then (λ y. parse_map (λ xs. y.0 ∷ xs) (many p n y.1)) o) s.1
stops_many p (x ∷ xs) (suc n) ts s =
    many_more p n ts s.0 ∙ ap (λ o. option_and_then (λ y. parse_map (λ xs. y.0 ∷ xs) (many p n y.1)) o) s.1.1
    ∙ ap (parse_map (λ xs. x ∷ xs)) (stops_many p xs n s.1.0 s.1.2)

pub stops_none : {A : Type 0} (form : Form A) (xs : List A) (ts inner : List Token) → after_begin_array ts ≡ Some inner → Stops form.taken xs inner
    → (list form).taken ts ≡ None
stops_none form xs ts inner e s = ap (option_and_then (elements_taken form.taken)) e ∙ stops_many form.taken xs (length inner) inner s

-- one more element is taken before it stops
pub stops_before : {A : Type 0} (p : Parse A) (found grown : List A) (x : A) (ts rest whole : List Token) → after_end_array ts ≡ None
    → p ts ≡ Some (x, rest) → grown ≡ found ++ x ∷ [] → ((xs : List A) → Stops p xs ts → Stops p (found ++ xs) whole)
    → (xs : List A) → Stops p xs rest → Stops p (grown ++ xs) whole
stops_before p found grown x ts rest whole going e pushed h xs s =
    rw (pushed, append_assoc found (x ∷ []) xs) (h (x ∷ xs) (going, (rest, e, s)))

-- ---- values that stop are none

stops_each : {A : Type 0} (f : Data → Option A) (xs : List A) (ds : List Data) → StopsAt f xs ds → each f ds ≡ None
stops_each f xs [] s = absurd s
stops_each f [] (d ∷ ds) s = rw s refl
stops_each f (x ∷ xs) (d ∷ ds) s = rw (s.0, stops_each f xs ds s.1) refl

pub stops_said : {A : Type 0} (form : Form A) (xs : List A) (d : Data) (ds : List Data) → elements d ≡ Some ds → StopsAt form.said xs ds
    → (list form).said d ≡ None
stops_said form xs d ds e s = ap (option_and_then (each form.said)) e ∙ stops_each form.said xs ds s

-- ---- tokens that spell values

-- the next element of an array
abbrev pub NextItem : ℕ → ℕ → List Token → Items → List Token → Type 0
NextItem depth n ts is rest =
    (d : Data) × (ds : Items) × (r : List Token) × (is ≡ item d ds) × (value_read depth ts ≡ Some (d, r)) × (length r ≤ n - 1)
    × (converted of_items (items (value depth) (n - 1) r) ≡ Some (ds, rest))

behind_item : (depth n : ℕ) (ts r : List Token) (d : Data) (is : Items) (rest : List Token) → value_read depth ts ≡ Some (d, r) → length r ≤ n - 1
    → (o : Option (Items × List Token)) → converted of_items (items (value depth) (n - 1) r) ≡ o → parse_map (item d) o ≡ Some (is, rest)
    → NextItem depth n ts is rest
behind_item depth n ts r d is rest says shorter None e h = never_some (is, rest) h
behind_item depth n ts r d is rest says shorter (Some p) e h =
    let same = both_same (item d p.0, p.1) (is, rest) h in
    (d, p.0, r, sym same.0, says, shorter, e ∙ ap (λ r. Some (p.0, r)) same.1)

with_json : (depth n : ℕ) (ts r : List Token) (j : json.Json) (is : Items) (rest : List Token) → value depth ts ≡ Some (j, r) → length r ≤ n - 1
    → (c : Option Data) → of_json j ≡ c → converted of_items (parse_map (json.item j) (items (value depth) (n - 1) r)) ≡ Some (is, rest)
    → NextItem depth n ts is rest
with_json depth n ts r j is rest says shorter None e h = absurd (no_item (items (value depth) (n - 1) r) h)
  where
    no_item : (o : Option (json.Items × List Token)) → converted of_items (parse_map (json.item j) o) ≡ Some (is, rest) → ⊥
    no_item None h = never_some (is, rest) h
    no_item (Some p) h =
        let none : of_items (json.item j p.0) ≡ None = rw e refl in
        never_some (is, rest) (sym (ap (option_map {U = Items × List Token} (λ is. (is, p.1))) none) ∙ h)
with_json depth n ts r j is rest says shorter (Some d) e h =
    behind_item depth n ts r d is rest (ap (converted of_json) says ∙ ap (option_map (λ d. (d, r))) e) shorter
    (converted of_items (items (value depth) (n - 1) r)) refl (sym (with_item j d e (items (value depth) (n - 1) r)) ∙ h)

pub next_item : (depth n : ℕ) (ts : List Token) (is : Items) (rest : List Token) → after_end_array ts ≡ None → length ts ≤ n
    → (o : Option (json.Json × List Token)) → value depth ts ≡ o → converted of_items (items (value depth) n ts) ≡ Some (is, rest)
    → NextItem depth n ts is rest
next_item depth n ts is rest going enough None e h =
    never_some (is, rest) (sym (ap (converted of_items) (items_fail (value depth) n ts going e)) ∙ h)
next_item depth n ts is rest going enough (Some p) e h =
    let less : length p.1 < length ts = skip_value-shorter depth ts p.1 (ap left e) in
    with_json depth n ts p.1 p.0 is rest e (omega arith) (of_json p.0) refl
    (sym (ap (converted of_items) (items_more (value depth) n ts p.1 p.0 (omega arith) going e)) ∙ h)

-- what a form takes of tokens is what it says of the value that they spell
pub says_of : {A : Type 0} (least : ℕ) (form : Form A) → Says least form → (depth : ℕ) → least ≤ depth → (ts : List Token) (d : Data) (r : List Token)
    → value_read depth ts ≡ Some (d, r) → option_map (λ a. (a, r)) (form.said d) ≡ form.taken ts
says_of least form says depth deep ts d r e = sym (ap (converted form.said) e) ∙ says depth deep ts

pub says_none : {A : Type 0} (o : Option A) (r : List Token) → option_map {U = A × List Token} (λ a. (a, r)) o ≡ None → o ≡ None
says_none None r e = refl
says_none (Some a) r e = absurd (cc)

pub says_some : {A : Type 0} (o : Option A) (r rest : List Token) (x : A) → option_map {U = A × List Token} (λ a. (a, r)) o ≡ Some (x, rest)
    → (o ≡ Some x) × (r ≡ rest)
says_some None r rest x e = never_some (x, rest) e
says_some (Some a) r rest x e = let same = both_same (a, r) (x, rest) e in (ap Some same.0, same.1)

pub stops_items : {A : Type 0} (least : ℕ) (form : Form A) → Says least form → (depth n : ℕ) → least ≤ depth → (xs : List A) (ts : List Token) (is : Items)
    (rest : List Token) → length ts ≤ n → converted of_items (items (value depth) n ts) ≡ Some (is, rest) → Stops form.taken xs ts
    → StopsAt form.said xs (listed is)
stops_items least form says depth n deep [] ts is rest enough h s =
    let it = next_item depth n ts is rest s.0 enough (value depth ts) refl h in
    rw it.3 (says_none (form.said it.0) it.2 (says_of least form says depth deep ts it.0 it.2 it.4 ∙ s.1))
stops_items least form says depth n deep (x ∷ xs) ts is rest enough h s =
    let it = next_item depth n ts is rest s.0 enough (value depth ts) refl h in
    let both = says_some (form.said it.0) it.2 s.1.0 x (says_of least form says depth deep ts it.0 it.2 it.4 ∙ s.1.1) in
    rw it.3 (
      both.0,
      stops_items least form says depth (n - 1) deep xs it.2 it.1 rest it.5 it.6 (rw both.1 s.1.2),
    )

pub whole_array : (ts inner : List Token) → after_begin_array ts ≡ Some inner → ts ≡ token.begin_array ∷ inner
whole_array [] inner e = absurd (cc)
whole_array (token.begin_object ∷ ts) inner e = absurd (cc)
whole_array (token.end_object ∷ ts) inner e = absurd (cc)
whole_array (token.begin_array ∷ ts) inner e = let same : ts ≡ inner = cc in ap (λ r. token.begin_array ∷ r) same
whole_array (token.end_array ∷ ts) inner e = absurd (cc)
whole_array (token.key s ∷ ts) inner e = absurd (cc)
whole_array (token.string s ∷ ts) inner e = absurd (cc)
whole_array (token.number s ∷ ts) inner e = absurd (cc)
whole_array (token.boolean b ∷ ts) inner e = absurd (cc)
whole_array (token.null ∷ ts) inner e = absurd (cc)
whole_array (token.bad ∷ ts) inner e = absurd (cc)

other_data : {A : Type 0} (f : A → Data) (o : Option A) (d : Data) (ts r : List Token) → ((x : A) → elements (f x) ≡ None)
    → option_map {U = Data × List Token} (λ d. (d, ts)) (option_map f o) ≡ Some (d, r) → elements d ≡ None
other_data f None d ts r h e = never_some (d, r) e
other_data f (Some x) d ts r h e = subst (λ d. elements d ≡ None) (both_same (f x, ts) (d, r) e).0 (h x)

object_data : (o : Option (json.Members × List Token)) (d : Data) (r : List Token) → converted of_json (parse_map json.object o) ≡ Some (d, r)
    → elements d ≡ None
object_data None d r e = never_some (d, r) e
object_data (Some p) d r e = other_data object (of_members p.0 no_members) d p.1 r (λ ms. refl) e

-- a value whose tokens begin with no bracket is no array
no_array_with : (a : Parse json.Items) (o : Parse json.Members) (ts : List Token) (d : Data) (rest : List Token)
    → converted of_json (value_with a o ts) ≡ Some (d, rest) → after_begin_array ts ≡ None → elements d ≡ None
no_array_with a o [] d rest e none = never_some (d, rest) e
no_array_with a o (token.begin_object ∷ ts) d rest e none = object_data (o ts) d rest e
no_array_with a o (token.end_object ∷ ts) d rest e none = never_some (d, rest) e
no_array_with a o (token.begin_array ∷ ts) d rest e none = absurd (cc)
no_array_with a o (token.end_array ∷ ts) d rest e none = never_some (d, rest) e
no_array_with a o (token.key s ∷ ts) d rest e none = never_some (d, rest) e
no_array_with a o (token.string s ∷ ts) d rest e none = other_data string (Some s) d ts rest (λ x. refl) e
no_array_with a o (token.number s ∷ ts) d rest e none = other_data number (number_of s) d ts rest (λ x. refl) e
no_array_with a o (token.boolean b ∷ ts) d rest e none = other_data boolean (Some b) d ts rest (λ x. refl) e
no_array_with a o (token.null ∷ ts) d rest e none = other_data (λ u. null) (Some tt) d ts rest (λ (u : Unit {0}). refl) e
no_array_with a o (token.bad ∷ ts) d rest e none = never_some (d, rest) e

pub no_array : (depth : ℕ) (ts : List Token) (d : Data) (rest : List Token) → value_read depth ts ≡ Some (d, rest) → after_begin_array ts ≡ None
    → elements d ≡ None
unfolding value
no_array zero ts d rest e none = no_array_with (λ ts. None) (λ ts. None) ts d rest e none
no_array (suc k) ts d rest e none =
    no_array_with (λ ts. items (value k) (length ts) ts) (λ ts. members (value k) (length ts) ts) ts d rest e none

array_of : (d : Data) (rest : List Token) (o : Option (Items × List Token)) → parse_map array o ≡ Some (d, rest)
    → (is : Items) × (d ≡ array is) × (o ≡ Some (is, rest))
array_of d rest None e = never_some (d, rest) e
array_of d rest (Some p) e = let same = both_same (array p.0, p.1) (d, rest) e in (p.0, sym same.0, ap (λ r. Some (p.0, r)) same.1)

-- the elements of an array
abbrev pub ArrayInside : ℕ → List Token → Data → List Token → Type 0
ArrayInside depth inner d rest =
    (is : Items) × (d ≡ array is) × (converted of_items (items (value (depth - 1)) (length inner) inner) ≡ Some (is, rest))

pub array_inside : (depth : ℕ) → 1 ≤ depth → (ts inner : List Token) (d : Data) (rest : List Token) → value_read depth ts ≡ Some (d, rest)
    → after_begin_array ts ≡ Some inner → ArrayInside depth inner d rest
array_inside depth deep ts inner d rest spelled e =
    let inside : value depth ts ≡ parse_map json.array (items (value (depth - 1)) (length inner) inner) =
    ap (value depth) (whole_array ts inner e) ∙ value-begin_array depth inner (omega arith) in
    array_of d rest (converted of_items (items (value (depth - 1)) (length inner) inner))
    (sym (converted-array (items (value (depth - 1)) (length inner) inner)) ∙ sym (ap (converted of_json) inside) ∙ spelled)

-- an array of values of which one is of another form
pub stops_value : {A : Type 0} (least : ℕ) (form : Form A) → Says least form → (depth : ℕ) → suc least ≤ depth → (xs : List A) (ts inner : List Token)
    (d : Data) (rest : List Token) → value_read depth ts ≡ Some (d, rest) → after_begin_array ts ≡ Some inner → Stops form.taken xs inner
    → (ds : List Data) × (elements d ≡ Some ds) × StopsAt form.said xs ds
stops_value least form says depth deep xs ts inner d rest spelled e s =
    let it = array_inside depth (omega arith) ts inner d rest spelled e in
    let same : length inner ≤ length inner = omega arith in (
      listed it.0,
      ap elements it.1,
      stops_items least form says (depth - 1) (length inner) (omega arith) xs inner it.0 rest same it.2 s,
    )

-- the value of a whole text
pub text_read : (s : List ℕ) (d : Data) → read s ≡ Some d → value_read 127 (tokens s) ≡ Some (d, [])
text_read s d e = whole (value 127 (tokens s)) d e
  where
    last : (j : json.Json) (d : Data) (ts : List Token) → option_and_then of_json (if_last j ts) ≡ Some d → option_map {U = Data × List Token} (λ d. (d, ts)) (of_json j) ≡ Some (d, [])
    last j d [] e = ap (option_map (λ d. (d, []))) e
    last j d (t ∷ ts) e = absurd (cc)

    whole : (o : Option (json.Json × List Token)) (d : Data) → option_and_then of_json (option_and_then (λ p. if_last p.0 p.1) o) ≡ Some d
        → converted of_json o ≡ Some (d, [])
    whole None d e = absurd (cc)
    whole (Some p) d e = last p.0 d p.1 e

-- ---- what was taken

pub list_begun : {X A : Type 0} (seen : X → A) (form : Form A) (result : Result (Vec X Global) (Unlisted X)) (ts inner rest : List Token)
    → after_begin_array ts ≡ Some inner → TakesElements seen form.taken result inner rest → TakesList seen form result ts rest
list_begun seen form (Ok found) ts inner rest e h = ap (option_and_then (elements_taken form.taken)) e ∙ h
list_begun seen form (Err NoArray) ts inner rest e h = absurd h
list_begun seen form (Err (Behind found)) ts inner rest e h = (inner, e, h)
list_begun seen form (Err Memory) ts inner rest e h = tt

-- a list that there isn't
pub list_none : {X A : Type 0} (seen : X → A) (form : Form A) (why : Unlisted X) (ts rest : List Token) → TakesList seen form (Err why) ts rest
    → FaultOf (unread why) ((list form).taken ts)
list_none seen form NoArray ts rest h = ap (option_and_then (elements_taken form.taken)) h
list_none seen form (Behind found) ts rest h = stops_none form (map seen found.items) ts h.0 h.1 h.2
list_none seen form Memory ts rest h = tt

-- what tokens of a text say is what its value says
pub list_read : {X A : Type 0} (seen : X → A) (form : Form A) → Says 8 form → (result : Result (Vec X Global) (Unlisted X)) (ts rest : List Token) (d : Data)
    → value_read 127 ts ≡ Some (d, []) → TakesList seen form result ts rest → ReadsList seen form result d
list_read seen form says (Ok found) ts rest d e h =
    (says_some ((list form).said d) [] rest (map seen found.items) (says_of 9 (list form) (list_says 8 form says) 127 (lit≤ tt) ts d [] e ∙ h)).0
list_read seen form says (Err NoArray) ts rest d e h = no_array 127 ts d [] e h
list_read seen form says (Err (Behind found)) ts rest d e h = stops_value 8 form says 127 (lit≤ tt) (map seen found.items) ts h.0 d [] e h.1 h.2
list_read seen form says (Err Memory) ts rest d e h = tt

-- ---- why there is no list

pub list_stopped : {X A : Type 0} (seen : X → A) (form : Form A) (found : Vec X Global) (ts rest : List Token)
    → TakesList seen form (Err (Behind found)) ts rest → (list form).taken ts ≡ None
list_stopped seen form found ts rest h = stops_none form (map seen found.items) ts h.0 h.1 h.2

pub list_other : {X A : Type 0} (seen : X → A) (form : Form A) (found : Vec X Global) (d : Data) → ReadsList seen form (Err (Behind found)) d
    → (list form).said d ≡ None
list_other seen form found d h = stops_said form (map seen found.items) d h.0 h.1 h.2

-- it stops behind what was found
pub stops_here : {A : Type 0} (p : Parse A) (found : List A) (ts whole : List Token) → after_end_array ts ≡ None → p ts ≡ None
    → ((xs : List A) → Stops p xs ts → Stops p (found ++ xs) whole) → Stops p found whole
stops_here p found ts whole going none h = subst (λ xs. Stops p xs whole) (append-nil found) (h [] (going, none))

-- ---- the number at which it stops

-- where it stops, f reads nothing, and before that it does
pub stops_first : {A : Type 0} (f : Data → Option A) (xs : List A) (ds : List Data) → StopsAt f xs ds
    → (x : Data) × (passing (λ e. is_some (f e)) ds ≡ length xs) × (length xs < length ds) × (slice_get ds (length xs) ≡ Some x)
stops_first f xs [] s = absurd s
stops_first f [] (d ∷ ds) s = (d, rw s refl, omega arith, refl)
stops_first f (x ∷ xs) (d ∷ ds) s =
    let more = stops_first f xs ds s.1 in
    (more.0, rw (s.0, more.1) (omega arith), omega (arith, more.2), more.3)

pub first_stop : {A : Type 0} (f : Data → Option A) (xs : List A) (n : ℕ) (d : Data) (ds : List Data) → n ≡ length xs → elements d ≡ Some ds
    → StopsAt f xs ds → (x : Data) × IsFirstOther f d n x
first_stop f xs n d ds counted e s =
    let at = stops_first f xs ds s in (
      at.0,
      (
        ds,
        e,
        subst (λ k. IsFirstWithout (λ e. is_some (f e)) ds k at.0) (sym counted) (placed_first (λ e. is_some (f e)) ds (length xs) at.1 at.2, at.3),
      ),
    )

pub first_other : {X A : Type 0} (seen : X → A) (form : Form A) (found : Vec X Global) (n : ℕ) (d : Data) → n ≡ length found.items
    → ReadsList seen form (Err (Behind found)) d → (x : Data) × IsFirstOther form.said d n x
first_other seen form found n d counted h =
    first_stop form.said (map seen found.items) n d h.0 (counted ∙ sym (length-map found.items seen)) h.1 h.2
