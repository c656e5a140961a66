-- Tokens that spell a value.
use Rattle.std.specs.Prelude.{◌≡◌, ℕ, List, Some}
use Rattle.json.specs.Token.{Token}
use Rattle.json.specs.Json.{value}
use Rattle.serde_json.specs.Data.{Data}
use Rattle.serde_json.specs.Read.{of_json, converted}

-- the tokens begin with the value d, nested no deeper than the number, and `rest` follows
abbrev pub Spells : ℕ → List Token → Data → List Token → Type 0
Spells depth ts d rest = converted of_json (value depth ts) ≡ Some (d, rest)
