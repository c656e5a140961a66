-- Fields of comma-separated values (RFC 4180).
--     quoted_field     a text in quotes
use Rattle.std.specs.Prelude.{ℕ, ◌==◌, if◌then◌else◌, List, [], ◌∷◌, ◌++◌, encode_utf8}
use Rattle.std.specs.List.{flat_map}
use Rattle.std.specs.Str.{chars}

-- within quotes a quote stands twice
abbrev pub quoted_character : ℕ → List ℕ
quoted_character character = if character == 34 then 34 ∷ 34 ∷ [] else encode_utf8 character

unfoldable pub quoted_field : List ℕ → List ℕ
quoted_field text = 34 ∷ [] ++ (flat_map quoted_character (chars text) ++ 34 ∷ [])
