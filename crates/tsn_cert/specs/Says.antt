-- What a form says of a value is what it says of the tokens that spell it.
--     Says least form        of values that are read with so much depth at least
--     Follows least row      the same of the values of an array
use Rattle.std.specs.Prelude.{◌≡◌, ◌≤◌, ℕ, List, length, Option}
use Rattle.json.specs.Token.{Token}
use Rattle.json.specs.Json.{items, value}
use Rattle.serde_json.specs.Data.{Data}
use Rattle.serde_json.specs.Read.{of_json, of_items, converted}
use Rattle.tsn_cert.specs.Json.{listed}
use Rattle.tsn_cert.specs.Form.{Form, Row}

-- the value that the tokens begin with, nested no deeper than the number
abbrev pub value_read : ℕ → List Token → Option (Data × List Token)
value_read depth ts = converted of_json (value depth ts)

abbrev pub Says : {A : Type 0} → ℕ → Form A → Type 0
Says least form = (depth : ℕ) → least ≤ depth → (ts : List Token) → converted form.said (value_read depth ts) ≡ form.taken ts

-- what the values say up to the end of their array
abbrev pub rest_said : {A : Type 0} → (List Data → Option A) → ℕ → ℕ → List Token → Option (A × List Token)
rest_said g depth n ts = converted (λ is. g (listed is)) (converted of_items (items (value depth) n ts))

abbrev pub Follows : {A : Type 0} → ℕ → Row A → Type 0
Follows least row = (depth n : ℕ) → least ≤ depth → (ts : List Token) → length ts ≤ n → rest_said row.parts depth n ts ≡ row.rest ts
