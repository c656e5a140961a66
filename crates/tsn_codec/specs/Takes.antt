-- What a reader of tokens gave.
use Rattle.std.specs.Prelude.{◌≡◌, List, Option, Some, None, Result, Ok, Err}
use Rattle.json.specs.Token.{Token}
use Rattle.tsn_codec.specs.declared.tokens.Unread.{Unread}
use Rattle.tsn_codec.specs.declared.tokens.Unread.TheVariants.{OtherForm, Memory}

-- what an error says of the tokens
abbrev pub FaultOf : {A : Type 0} → Unread → Option A → Type 0
FaultOf OtherForm found = found ≡ None
FaultOf Memory found = Unit {0}

-- It is what the tokens say, with those that are left, or that they don't say it, unless memory ran out.
abbrev pub Takes : {X A : Type 0} → (X → A) → Result X Unread → Option (A × List Token) → List Token → Type 0
Takes view (Ok x) found rest = found ≡ Some (view x, rest)
Takes view (Err e) found rest = FaultOf e found

-- the same of what is passed alone
abbrev pub Passes : {A : Type 0} → Result A Unread → Option (List Token) → List Token → Type 0
Passes (Ok x) found rest = found ≡ Some rest
Passes (Err e) found rest = FaultOf e found
