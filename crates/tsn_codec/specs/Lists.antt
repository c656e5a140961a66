-- What a reader of lists gave: a list, or behind which elements one stands that is of another form.
use Rattle.std.specs.Prelude.{◌≡◌, List, [], ◌∷◌, map, Option, Some, None, Result, Ok, Err, Vec}
use Rattle.std.specs.declared.alloc.Global.{Global}
use Rattle.json.specs.Token.{Token}
use Rattle.json.specs.Json.{Parse, after_end_array}
use Rattle.serde_json.specs.Data.{Data}
use Rattle.tsn_cert.specs.Json.{elements}
use Rattle.tsn_cert.specs.Form.{Form, list, elements_taken, after_begin_array}
use Rattle.tsn_codec.specs.declared.tokens.Unread.{Unread}
use Rattle.tsn_codec.specs.declared.tokens.Unread.TheVariants as other
use Rattle.tsn_codec.specs.declared.list.Unlisted.{Unlisted}
use Rattle.tsn_codec.specs.declared.list.Unlisted.TheVariants.{NoArray, Behind, Memory}

-- ---- tokens

-- The tokens of an array go on with these elements, and then with something of another form.
abbrev pub Stops : {A : Type 0} → Parse A → List A → List Token → Type 0
Stops p [] ts = (after_end_array ts ≡ None) × (p ts ≡ None)
Stops p (x ∷ xs) ts = (after_end_array ts ≡ None) × ((rest : List Token) × (p ts ≡ Some (x, rest)) × Stops p xs rest)

-- what was taken of an array from some place on
abbrev pub TakesElements : {X A : Type 0} → (X → A) → Parse A → Result (Vec X Global) (Unlisted X) → List Token → List Token → Type 0
TakesElements seen p (Ok found) ts rest = elements_taken p ts ≡ Some (map seen found.items, rest)
TakesElements seen p (Err NoArray) ts rest = ⊥
TakesElements seen p (Err (Behind found)) ts rest = Stops p (map seen found.items) ts
TakesElements seen p (Err Memory) ts rest = Unit {0}

-- what was taken of a list
abbrev pub TakesList : {X A : Type 0} → (X → A) → Form A → Result (Vec X Global) (Unlisted X) → List Token → List Token → Type 0
TakesList seen form (Ok found) ts rest = (list form).taken ts ≡ Some (map seen found.items, rest)
TakesList seen form (Err NoArray) ts rest = after_begin_array ts ≡ None
TakesList seen form (Err (Behind found)) ts rest = (inner : List Token) × (after_begin_array ts ≡ Some inner) × Stops form.taken (map seen found.items) inner
TakesList seen form (Err Memory) ts rest = Unit {0}

-- why there is no list, as why there is no part
abbrev pub unread : {X : Type 0} → Unlisted X → Unread
unread NoArray = other.OtherForm
unread (Behind found) = other.OtherForm
unread Memory = other.Memory

-- ---- a value

-- The values begin with what says these, and the next one says nothing.
abbrev pub StopsAt : {A : Type 0} → (Data → Option A) → List A → List Data → Type 0
StopsAt f xs [] = ⊥
StopsAt f [] (d ∷ ds) = f d ≡ None
StopsAt f (x ∷ xs) (d ∷ ds) = (f d ≡ Some x) × StopsAt f xs ds

-- what was read of a value that is to be a list
abbrev pub ReadsList : {X A : Type 0} → (X → A) → Form A → Result (Vec X Global) (Unlisted X) → Data → Type 0
ReadsList seen form (Ok found) d = (list form).said d ≡ Some (map seen found.items)
ReadsList seen form (Err NoArray) d = elements d ≡ None
ReadsList seen form (Err (Behind found)) d = (ds : List Data) × (elements d ≡ Some ds) × StopsAt form.said (map seen found.items) ds
ReadsList seen form (Err Memory) d = Unit {0}
