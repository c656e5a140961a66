-- What a form says of a value is what it says of the tokens that spell it: each way to make a form keeps that.
use Rattle.std.proofs.Common.{◌≡◌, ◌<◌, ◌≤◌, ◌-◌, ℕ, zero, suc, List, [], ◌∷◌, length, Option, Some, None, refl, sym, ap, ap₂, ◌∙◌, arith}
use Rattle.std.specs.Prelude.{Bool, true, false, if◌then◌else◌, option_and_then, option_map}
use Rattle.std.specs.Option.{option_or}
use Rattle.json.specs.Token.{Token}
use Rattle.json.specs.Token as token
use Rattle.json.specs.Json as json
use Rattle.json.specs.Lex.{tokens}
use Rattle.std.specs.Str.{bytes_eq}
use Rattle.json.specs.Json.{parse_map, after_end_array, items, value, value_with}
use Rattle.json.proofs.Grammar.{left, skip_value-shorter, value_is, closed_array, items_fail, items_more, after_end_array-shorter, value-begin_array, value-begin_object}
use Rattle.serde_json.specs.Data.{Num, Data, Items, item, array, object, number, string, Members, no_members}
use Rattle.serde_json.specs.Read.{of_json, of_items, of_members, converted, number_of, read}
use Rattle.serde_json.specs.Find.{as_number, as_str, as_u64}
use Rattle.tsn_cert.specs.Json.{listed, elements, each, signed_of}
use Rattle.tsn_cert.specs.Form.{Form, Row, number as number_form, signed as signed_form, number_taken, opened, closed, many, many_step, made, either, array as array_form, no_parts, over, refused, first_part, next, becomes, either_row, checked, row_of, one_of, parts_or, over_or, elements_row, list, few, text}
use Rattle.tsn_cert.specs.Says.{value_read, Says, rest_said, Follows}
use Rattle.tsn_cert.proofs.Many.{many_over, many_more, many_zero}
use Rattle.tsn_cert.proofs.SpelledLemmas.{converted_some, with_item, items_over, spelled-shorter, converted-array, converted-object}

-- ---- options

never : {A B : Type 0} (o : Option (A × List Token)) → converted {A = A} {B = B} (λ x. None) o ≡ None
never None = refl
never (Some p) = refl

nothing : {A B C : Type 0} (f : B → Option C) (g : A → B) → ((a : A) → f (g a) ≡ None) → (o : Option (A × List Token)) → converted f (parse_map g o) ≡ None
nothing f g h None = refl
nothing f g h (Some p) = ap (λ c. option_map (λ b. (b, p.1)) c) (h p.0)

within : {A B : Type 0} (f : A → Option B) (r : List Token) (o : Option A)
    → converted f (option_map (λ a. (a, r)) o) ≡ option_map (λ b. (b, r)) (option_and_then f o)
within f r None = refl
within f r (Some a) = refl

twice : {A B C : Type 0} (f : B → Option C) (g : A → Option B) (o : Option (A × List Token))
    → converted (λ a. option_and_then f (g a)) o ≡ converted f (converted g o)
twice f g None = refl
twice f g (Some p) = sym (within f p.1 (g p.0))

or_within : {A : Type 0} (r : List Token) (x y : Option A)
    → option_map {U = A × List Token} (λ a. (a, r)) (option_or x y)
    ≡ option_or (option_map {U = A × List Token} (λ a. (a, r)) x) (option_map {U = A × List Token} (λ a. (a, r)) y)
or_within r None y = refl
or_within r (Some a) y = refl

or_twice : {A B : Type 0} (f g : A → Option B) (o : Option (A × List Token))
    → converted (λ a. option_or (f a) (g a)) o ≡ option_or (converted f o) (converted g o)
or_twice f g None = refl
or_twice f g (Some p) = or_within p.1 (f p.0) (g p.0)

-- ---- the values of an array, one at a time

nothing_read : (depth : ℕ) (ts r : List Token) → after_end_array ts ≡ Some r → value_read depth ts ≡ None
nothing_read depth ts r e = ap (value_read depth) (closed_array ts r e) ∙ ap (converted of_json) (value_is depth (token.end_array ∷ r))

rest_over : {A : Type 0} (g : List Data → Option A) (depth n : ℕ) (ts r : List Token) → length ts ≤ n → after_end_array ts ≡ Some r
    → rest_said g depth n ts ≡ option_map (λ a. (a, r)) (g [])
rest_over g depth n ts r enough e = ap (converted (λ is. g (listed is))) (items_over (value depth) n ts r enough e)

abbrev rest_behind : {A : Type 0} → (List Data → Option A) → ℕ → ℕ → Option (Data × List Token) → Option (A × List Token)
rest_behind g depth n o = option_and_then (λ p. rest_said (λ ds. g (p.0 ∷ ds)) depth (n - 1) p.1) o

no_item : (j : json.Json) → of_json j ≡ None → (o : Option (json.Items × List Token)) → converted of_items (parse_map (json.item j) o) ≡ None
no_item j e None = refl
no_item j e (Some p) = rw e refl

behind : {A : Type 0} (g : List Data → Option A) (d : Data) (o : Option (_ × List Token))
    → converted (λ is. g (listed is)) (parse_map (item d) o) ≡ converted (λ is. g (d ∷ listed is)) o
behind g d None = refl
behind g d (Some p) = refl

rest_item : {A : Type 0} (g : List Data → Option A) (depth n : ℕ) (r : List Token) (j : json.Json) (c : Option Data) → of_json j ≡ c
    → converted (λ is. g (listed is)) (converted of_items (parse_map (json.item j) (items (value depth) (n - 1) r)))
    ≡ rest_behind g depth n (option_map (λ d. (d, r)) c)
rest_item g depth n r j None e = ap (converted (λ is. g (listed is))) (no_item j e (items (value depth) (n - 1) r))
rest_item g depth n r j (Some d) e =
    ap (converted (λ is. g (listed is))) (with_item j d e (items (value depth) (n - 1) r)) ∙ behind g d (converted of_items (items (value depth) (n - 1) r))

rest_more_at : {A : Type 0} (g : List Data → Option A) (depth n : ℕ) (ts : List Token) → after_end_array ts ≡ None → length ts ≤ n
    → (o : Option (json.Json × List Token)) → value depth ts ≡ o → rest_said g depth n ts ≡ rest_behind g depth n (converted of_json o)
rest_more_at g depth n ts going enough None is = ap (λ o. converted (λ is. g (listed is)) (converted of_items o)) (items_fail (value depth) n ts going is)
rest_more_at g depth n ts going enough (Some p) is =
    let less : length p.1 < length ts = skip_value-shorter depth ts p.1 (ap left is) in
    ap (λ o. converted (λ is. g (listed is)) (converted of_items o)) (items_more (value depth) n ts p.1 p.0 (omega arith) going is)
    ∙ rest_item g depth n p.1 p.0 (of_json p.0) refl

rest_more : {A : Type 0} (g : List Data → Option A) (depth n : ℕ) (ts : List Token) → after_end_array ts ≡ None → length ts ≤ n
    → rest_said g depth n ts ≡ rest_behind g depth n (value_read depth ts)
rest_more g depth n ts going enough = rest_more_at g depth n ts going enough (value depth ts) refl

-- ---- rows

over_at : {A : Type 0} (a : A) (depth n : ℕ) (ts : List Token) → length ts ≤ n → (end : Option (List Token)) → after_end_array ts ≡ end
    → rest_said (no_parts a) depth n ts ≡ option_map (λ r. (a, r)) end
over_at a depth n ts enough (Some r) e = rest_over (no_parts a) depth n ts r enough e
over_at a depth n ts enough None e = rest_more (no_parts a) depth n ts e enough ∙ unsaid depth n (value_read depth ts)
  where
    unsaid : (depth n : ℕ) (o : Option (Data × List Token)) → rest_behind (no_parts a) depth n o ≡ None
    unsaid depth n None = refl
    unsaid depth n (Some p) = never (converted of_items (items (value depth) (n - 1) p.1))

pub over_follows : {A : Type 0} (least : ℕ) (a : A) → Follows least (over a)
over_follows least a depth n deep ts enough = over_at a depth n ts enough (after_end_array ts) refl

or_at : {A : Type 0} (least : ℕ) (a : A) (row : Row A) → Follows least row → (depth n : ℕ) → least ≤ depth → (ts : List Token) → length ts ≤ n
    → (end : Option (List Token)) → after_end_array ts ≡ end
    → rest_said (parts_or a row.parts) depth n ts ≡ option_or (option_map (λ r. (a, r)) end) (row.rest ts)
or_at least a row h depth n deep ts enough (Some r) e = rest_over (parts_or a row.parts) depth n ts r enough e
or_at least a row h depth n deep ts enough None e =
    rest_more (parts_or a row.parts) depth n ts e enough ∙ sym (rest_more row.parts depth n ts e enough) ∙ h depth n deep ts enough

pub or_follows : {A : Type 0} (least : ℕ) (a : A) (row : Row A) → Follows least row → Follows least (over_or a row)
or_follows least a row h depth n deep ts enough = or_at least a row h depth n deep ts enough (after_end_array ts) refl

then_said : {A B : Type 0} (least : ℕ) (k : A → Row B) → ((a : A) → Follows least (k a)) → (depth n : ℕ) → least ≤ depth → (r : List Token) → length r ≤ n
    → (c : Option A)
    → rest_said (λ ds. option_and_then (λ a. (k a).parts ds) c) depth n r
    ≡ option_and_then (λ (p : A × List Token). (k p.0).rest p.1) (option_map (λ a. (a, r)) c)
then_said least k h depth n deep r enough None = never (converted of_items (items (value depth) n r))
then_said least k h depth n deep r enough (Some a) = h a depth n deep r enough

then_read : {A B : Type 0} (least : ℕ) (f : Data → Option A) (k : A → Row B) → ((a : A) → Follows least (k a)) → (depth n : ℕ) → least ≤ depth
    → (ts : List Token)
    → length ts ≤ n → (o : Option (Data × List Token)) → value_read depth ts ≡ o
    → rest_behind (first_part f (λ a ds. (k a).parts ds)) depth n o ≡ option_and_then (λ p. (k p.0).rest p.1) (converted f o)
then_read least f k h depth n deep ts enough None is = refl
then_read least f k h depth n deep ts enough (Some p) is =
    let less : length p.1 < length ts = spelled-shorter depth ts p.0 p.1 is in
    then_said least k h depth (n - 1) deep p.1 (omega arith) (f p.0)

then_at : {A B : Type 0} (least : ℕ) (form : Form A) (k : A → Row B) → Says least form → ((a : A) → Follows least (k a)) → (depth n : ℕ) → least ≤ depth
    → (ts : List Token)
    → length ts ≤ n → (end : Option (List Token)) → after_end_array ts ≡ end → rest_said (first_part form.said (λ a ds. (k a).parts ds)) depth n ts
    ≡ option_and_then (λ p. (k p.0).rest p.1) (form.taken ts)
then_at least form k s h depth n deep ts enough (Some r) e =
    rest_over (first_part form.said (λ a ds. (k a).parts ds)) depth n ts r enough e
    ∙ ap (λ o. option_and_then (λ p. (k p.0).rest p.1) (converted form.said o)) (sym (nothing_read depth ts r e))
    ∙ ap (option_and_then (λ p. (k p.0).rest p.1)) (s depth deep ts)
then_at least form k s h depth n deep ts enough None e =
    rest_more (first_part form.said (λ a ds. (k a).parts ds)) depth n ts e enough
    ∙ then_read least form.said k h depth n deep ts enough (value_read depth ts) refl
    ∙ ap (option_and_then (λ p. (k p.0).rest p.1)) (s depth deep ts)

pub next_follows : {A B : Type 0} (least : ℕ) (form : Form A) (k : A → Row B) → Says least form → ((a : A) → Follows least (k a)) → Follows least (next form k)
next_follows least form k s h depth n deep ts enough = then_at least form k s h depth n deep ts enough (after_end_array ts) refl

become : {A B C : Type 0} (f : B → C) (g : A → Option B) (o : Option (A × List Token)) → converted (λ a. option_map f (g a)) o ≡ parse_map f (converted g o)
become f g None = refl
become f g (Some p) = put f p.1 (g p.0)
  where
    put : {B C : Type 0} (f : B → C) (r : List Token) (c : Option B)
        → option_map {U = C × List Token} (λ b. (b, r)) (option_map f c) ≡ parse_map f (option_map (λ b. (b, r)) c)
    put f r None = refl
    put f r (Some b) = refl

pub becomes_follows : {A B : Type 0} (least : ℕ) (f : A → B) (row : Row A) → Follows least row → Follows least (becomes f row)
becomes_follows least f row h depth n deep ts enough =
    become f (λ is. row.parts (listed is)) (converted of_items (items (value depth) n ts)) ∙ ap (parse_map f) (h depth n deep ts enough)

pub either_follows : {A : Type 0} (least : ℕ) (f g : Row A) → Follows least f → Follows least g → Follows least (either_row f g)
either_follows least f g h k depth n deep ts enough =
    or_twice (λ is. f.parts (listed is)) (λ is. g.parts (listed is)) (converted of_items (items (value depth) n ts))
    ∙ ap₂ option_or (h depth n deep ts enough) (k depth n deep ts enough)

pub checked_follows : {A B : Type 0} (least : ℕ) (f : A → Option B) (row : Row A) → Follows least row → Follows least (checked f row)
checked_follows least f row h depth n deep ts enough =
    twice f (λ is. row.parts (listed is)) (converted of_items (items (value depth) n ts)) ∙ ap (converted f) (h depth n deep ts enough)

if_at : {A : Type 0} (b : Bool) (row other : Row A) (least : ℕ) → Follows least row → Follows least other → Follows least (if b then row else other)
if_at true row other least h g = h
if_at false row other least h g = g

pub refused_follows : {A : Type 0} (least : ℕ) → Follows {A = A} least refused
refused_follows least depth n deep ts enough = never (converted of_items (items (value depth) n ts))

abbrev pub EachFollows : {A : Type 0} → ℕ → List (List ℕ × Row A) → Type 0
EachFollows least [] = Unit {0}
EachFollows least (row ∷ rows) = Follows least row.1 × EachFollows least rows

row_follows : {A : Type 0} (least : ℕ) (rows : List (List ℕ × Row A)) → EachFollows least rows → (word : List ℕ) → Follows least (row_of rows word)
row_follows least [] h word = refused_follows least
row_follows least (row ∷ rows) h word = if_at (bytes_eq word row.0) row.1 (row_of rows word) least h.0 (row_follows least rows h.1 word)

-- ---- lists

before : {A B : Type 0} (y : A) (g : B → Option (List A)) (o : Option (B × List Token))
    → converted (λ is. option_and_then (λ ys. Some (y ∷ ys)) (g is)) o ≡ parse_map (λ ys. y ∷ ys) (converted g o)
before y g None = refl
before y g (Some p) = put y p.1 (g p.0)
  where
    put : {A : Type 0} (y : A) (r : List Token) (c : Option (List A))
        → option_map (λ b. (b, r)) (option_and_then (λ ys. Some (y ∷ ys)) c) ≡ parse_map (λ ys. y ∷ ys) (option_map (λ b. (b, r)) c)
    put y r None = refl
    put y r (Some ys) = refl

element_said : {A : Type 0} (p : json.Parse A) (f : Data → Option A) (depth n m : ℕ) (r : List Token) → rest_said (each f) depth n r ≡ many p m r
    → (c : Option A)
    → rest_said (λ ds. option_and_then (λ y. option_and_then (λ ys. Some (y ∷ ys)) (each f ds)) c) depth n r
    ≡ option_and_then (λ (x : A × List Token). parse_map (λ xs. x.0 ∷ xs) (many p m x.1)) (option_map (λ a. (a, r)) c)
element_said p f depth n m r h None = never (converted of_items (items (value depth) n r))
element_said p f depth n m r h (Some y) = before y (λ is. each f (listed is)) (converted of_items (items (value depth) n r)) ∙ ap (parse_map (λ ys. y ∷ ys)) h

empty_read : {A : Type 0} (g : List Data → Option A) (depth n : ℕ) (ts : List Token) → length ts ≤ 0 → rest_behind g depth n (value_read depth ts) ≡ None
empty_read g depth n [] none = ap (λ o. rest_behind g depth n (converted of_json o)) (value_is depth [])
empty_read g depth n (t ∷ ts) none = let bad : ⊥ = omega (arith, none) in absurd bad

elements_read : {A : Type 0} (form : Form A) (m depth n : ℕ) (ts : List Token) → length ts ≤ n → length ts ≤ suc m
    → ((k : ℕ) (r : List Token) → length r ≤ k → length r ≤ m → rest_said (each form.said) depth k r ≡ many form.taken m r)
    → (o : Option (Data × List Token)) → value_read depth ts ≡ o
    → rest_behind (each form.said) depth n o ≡ option_and_then (λ x. parse_map (λ xs. x.0 ∷ xs) (many form.taken m x.1)) (converted form.said o)
elements_read form m depth n ts enough more h None is = refl
elements_read form m depth n ts enough more h (Some p) is =
    let less : length p.1 < length ts = spelled-shorter depth ts p.0 p.1 is in
    element_said form.taken form.said depth (n - 1) m p.1 (h (n - 1) p.1 (omega arith) (omega arith)) (form.said p.0)

elements_at : {A : Type 0} (least : ℕ) (form : Form A) → Says least form → (m depth : ℕ) → least ≤ depth → (n : ℕ) (ts : List Token) → length ts ≤ n
    → length ts ≤ m
    → (end : Option (List Token)) → after_end_array ts ≡ end → rest_said (each form.said) depth n ts ≡ many form.taken m ts
elements_at least form s m depth deep n ts enough more (Some r) e = rest_over (each form.said) depth n ts r enough e ∙ sym (many_over form.taken m ts r more e)
elements_at least form s zero depth deep n ts enough more None e =
    rest_more (each form.said) depth n ts e enough ∙ empty_read (each form.said) depth n ts more ∙ sym (many_zero form.taken ts)
elements_at least form s (suc m) depth deep n ts enough more None e =
    rest_more (each form.said) depth n ts e enough
    ∙ elements_read form m depth n ts enough more (λ k r enough more. elements_at least form s m depth deep k r enough more (after_end_array r) refl)
    (value_read depth ts) refl
    ∙ ap (option_and_then (λ x. parse_map (λ xs. x.0 ∷ xs) (many form.taken m x.1))) (s depth deep ts) ∙ sym (many_more form.taken m ts e)

pub elements_follows : {A : Type 0} (least : ℕ) (form : Form A) → Says least form → Follows least (elements_row form)
elements_follows least form s depth n deep ts enough =
    let same : length ts ≤ length ts = omega arith in
    elements_at least form s (length ts) depth deep n ts enough same (after_end_array ts) refl

-- ---- one value

array_nothing : {A : Type 0} (f : Data → Option A) → ((is : Items) → f (array is) ≡ None) → (o : Option (json.Items × List Token))
    → converted f (converted of_json (parse_map json.array o)) ≡ None
array_nothing f h o = ap (converted f) (converted-array o) ∙ nothing f array h (converted of_items o)

object_nothing : {A : Type 0} (f : Data → Option A) → ((ms : Members) → f (object ms) ≡ None) → (o : Option (json.Members × List Token))
    → converted f (converted of_json (parse_map json.object o)) ≡ None
object_nothing f h o = ap (converted f) (converted-object o) ∙ nothing f object h (converted (λ ms. of_members ms no_members) o)

-- as deep as in a value
abbrev inner_items : ℕ → List Token → Option (json.Items × List Token)
inner_items zero ts = None
inner_items (suc d) ts = items (value d) (length ts) ts

abbrev inner_members : ℕ → List Token → Option (json.Members × List Token)
inner_members zero ts = None
inner_members (suc d) ts = json.members (value d) (length ts) ts

-- what a number says
abbrev by_number : {A : Type 0} → (Num → Option A) → Data → Option A
by_number h d = option_and_then h (as_number d)

number_within : {A : Type 0} (h : Num → Option A) (r : List Token) (c : Option Num)
    → converted (by_number h) (option_map (λ d. (d, r)) (option_map number c)) ≡ option_map (λ a. (a, r)) (option_and_then h c)
number_within h r None = refl
number_within h r (Some n) = refl

number_at : {A : Type 0} (h : Num → Option A) (depth : ℕ) (ts : List Token)
    → converted (by_number h) (value_read depth ts) ≡ number_taken (λ s. option_and_then h (number_of s)) ts
number_at h depth (token.begin_object ∷ ts) = ap (λ o. converted (by_number h) (converted of_json o)) (value_is depth (token.begin_object ∷ ts))
    ∙ object_nothing (by_number h) (λ ms. refl) (inner_members depth ts)
number_at h depth (token.begin_array ∷ ts) = ap (λ o. converted (by_number h) (converted of_json o)) (value_is depth (token.begin_array ∷ ts))
    ∙ array_nothing (by_number h) (λ is. refl) (inner_items depth ts)
number_at h depth (token.number s ∷ ts) = ap (λ o. converted (by_number h) (converted of_json o)) (value_is depth (token.number s ∷ ts))
    ∙ number_within h ts (number_of s)
number_at h depth ts = ap (λ o. converted (by_number h) (converted of_json o)) (value_is depth ts)

pub number_says : Says 0 number_form
number_says depth deep ts = number_at as_u64 depth ts

pub signed_says : Says 0 signed_form
signed_says depth deep ts = number_at signed_of depth ts

no_text : (r : List Token) (c : Option Num) → converted as_str (option_map (λ d. (d, r)) (option_map number c)) ≡ None
no_text r None = refl
no_text r (Some n) = refl

pub text_says : Says 0 text
text_says depth deep (token.begin_object ∷ ts) = ap (λ o. converted as_str (converted of_json o)) (value_is depth (token.begin_object ∷ ts))
    ∙ object_nothing as_str (λ ms. refl) (inner_members depth ts)
text_says depth deep (token.begin_array ∷ ts) = ap (λ o. converted as_str (converted of_json o)) (value_is depth (token.begin_array ∷ ts))
    ∙ array_nothing as_str (λ is. refl) (inner_items depth ts)
text_says depth deep (token.number s ∷ ts) = ap (λ o. converted as_str (converted of_json o)) (value_is depth (token.number s ∷ ts)) ∙ no_text ts (number_of s)
text_says depth deep ts = ap (λ o. converted as_str (converted of_json o)) (value_is depth ts)

pub made_says : {A B : Type 0} (least : ℕ) (f : A → Option B) (form : Form A) → Says least form → Says least (made f form)
made_says least f form s depth deep ts = twice f form.said (value_read depth ts) ∙ ap (converted f) (s depth deep ts)

pub either_says : {A : Type 0} (least : ℕ) (f g : Form A) → Says least f → Says least g → Says least (either f g)
either_says least f g s t depth deep ts = or_twice f.said g.said (value_read depth ts) ∙ ap₂ option_or (s depth deep ts) (t depth deep ts)

-- what the values of an array say
abbrev by_parts : {A : Type 0} → (List Data → Option A) → Data → Option A
by_parts g d = option_and_then g (elements d)

no_parts_number : {A : Type 0} (g : List Data → Option A) (r : List Token) (c : Option Num)
    → converted (by_parts g) (option_map (λ d. (d, r)) (option_map number c)) ≡ None
no_parts_number g r None = refl
no_parts_number g r (Some n) = refl

array_within : {A : Type 0} (g : List Data → Option A) (o : Option (Items × List Token))
    → converted (by_parts g) (parse_map array o) ≡ converted (λ is. g (listed is)) o
array_within g None = refl
array_within g (Some p) = refl

pub array_says : {A : Type 0} (least : ℕ) (row : Row A) → Follows least row → Says (suc least) (array_form row)
array_says least row h depth deep (token.begin_object ∷ ts) = ap (λ o. converted (by_parts row.parts) (converted of_json o))
    (value_is depth (token.begin_object ∷ ts)) ∙ object_nothing (by_parts row.parts) (λ ms. refl) (inner_members depth ts)
array_says least row h depth deep (token.begin_array ∷ ts) =
    let same : length ts ≤ length ts = omega arith in
    ap (λ o. converted (by_parts row.parts) (converted of_json o)) (value-begin_array depth ts (omega arith))
    ∙ ap (converted (by_parts row.parts)) (converted-array (items (value (depth - 1)) (length ts) ts))
    ∙ array_within row.parts (converted of_items (items (value (depth - 1)) (length ts) ts))
    ∙ h (depth - 1) (length ts) (omega arith) ts same
array_says least row h depth deep (token.number s ∷ ts) = ap (λ o. converted (by_parts row.parts) (converted of_json o)) (value_is depth (token.number s ∷ ts))
    ∙ no_parts_number row.parts ts (number_of s)
array_says least row h depth deep ts = ap (λ o. converted (by_parts row.parts) (converted of_json o)) (value_is depth ts)

-- as deep as need be
pub deeper_says : {A : Type 0} (least more : ℕ) (form : Form A) → least ≤ more → Says least form → Says more form
deeper_says least more form le s depth deep ts = s depth (omega arith) ts

pub deeper_follows : {A : Type 0} (least more : ℕ) (row : Row A) → least ≤ more → Follows least row → Follows more row
deeper_follows least more row le h depth n deep ts enough = h depth n (omega arith) ts enough

pub few_says : {A : Type 0} (least some most : ℕ) (form : Form A) → Says least form → Says (suc least) (few some most form)
few_says least some most form s = made_says (suc least) _ (list form) (array_says least (elements_row form) (elements_follows least form s))

pub one_says : {A : Type 0} (least : ℕ) (rows : List (List ℕ × Row A)) → EachFollows least rows → Says (suc least) (one_of rows)
one_says least rows h = array_says least (next text (row_of rows))
    (next_follows least text (row_of rows) (deeper_says 0 least text (omega arith) text_says) (row_follows least rows h))

pub list_says : {A : Type 0} (least : ℕ) (form : Form A) → Says least form → Says (suc least) (list form)
list_says least form s = array_says least (elements_row form) (elements_follows least form s)

-- ---- what tokens were taken

pub said_spelled : {A : Type 0} (least : ℕ) (form : Form A) → Says least form → (depth : ℕ) → least ≤ depth → (ts : List Token) (a : A) (r : List Token)
    → form.taken ts ≡ Some (a, r)
    → (d : Data) × (value_read depth ts ≡ Some (d, r)) × (form.said d ≡ Some a)
said_spelled least form s depth deep ts a r e = converted_some form.said (value_read depth ts) a r (s depth deep ts ∙ e)

pub said_shorter : {A : Type 0} (least : ℕ) (form : Form A) → Says least form → (ts : List Token) (a : A) (r : List Token) → form.taken ts ≡ Some (a, r)
    → length r < length ts
said_shorter least form s ts a r e =
    let same : least ≤ least = omega arith in
    let d = said_spelled least form s least same ts a r e in
    spelled-shorter least ts d.0 r d.1

-- ---- a whole text

whole_value : (o : Option (json.Json × List Token)) (d : Data) → option_and_then of_json (option_and_then (λ p. json.if_last p.0 p.1) o) ≡ Some d
    → converted of_json o ≡ Some (d, [])
whole_value None d e = absurd (cc)
whole_value (Some p) d e = last p.0 p.1 d e
  where
    last : (j : json.Json) (r : List Token) (d : Data) → option_and_then of_json (json.if_last j r) ≡ Some d
        → option_map {U = Data × List Token} (λ x. (x, r)) (of_json j) ≡ Some (d, [])
    last j [] d e = ap (option_map (λ x. (x, []))) e
    last j (t ∷ ts) d e = absurd (cc)

-- what a value's text says
pub said_text : {A : Type 0} (least : ℕ) (form : Form A) → Says least form → least ≤ 127 → (s : List ℕ) (d : Data) → read s ≡ Some d
    → form.taken (tokens s) ≡ option_map (λ a. (a, [])) (form.said d)
said_text least form says deep s d e = sym (says 127 deep (tokens s)) ∙ ap (converted form.said) (whole_value (value 127 (tokens s)) d e)
