-- An outcome as a line of JSON.
--     text_or_null, number_or_null     a value that may be absent
--     told_object, told_value, told_text             the object, and its line
use Rattle.std.specs.Prelude.{ℕ, List, [], ◌∷◌, ◌++◌, codes, Option, Some, None}
use Rattle.serde_json.specs.Data.{Data, null, number, unsigned, string, object, no_members, member}
use Rattle.serde_json.specs.Written.{compact_text}
use Rattle.tsn_outcome.specs.declared.outcome.Outcome.{Outcome}
use Rattle.tsn_outcome.specs.Said.{code_of, flowspan_of, place_of, said, settled_of, status_of, text_if}

abbrev pub text_or_null : Option (List ℕ) → Data
text_or_null (Some text) = string text
text_or_null None = null

abbrev pub number_or_null : Option ℕ → Data
number_or_null (Some n) = number (unsigned n)
number_or_null None = null

-- the keys in byte order, with the values that are texts
abbrev pub told_object : Outcome → Data → Data → Data → Data → Data
told_object outcome code line place reason =
    object (member (codes "code") code (member (codes "flowspan") (number_or_null (flowspan_of outcome)) (member (codes "line") line
    (member (codes "place") place (member (codes "reason") reason (member (codes "settled") (number_or_null (settled_of outcome))
    (member (codes "status") (number (unsigned (status_of outcome))) no_members)))))))

-- what isn't there is null
abbrev pub told_value : Outcome → Option (List ℕ) → Data
told_value outcome reason =
    told_object outcome (text_or_null (code_of outcome)) (text_or_null (text_if (said outcome))) (text_or_null (place_of outcome)) (text_or_null reason)

-- a value as JSON with no space, and a line feed
abbrev pub line_text : Data → List ℕ
line_text value = compact_text value ++ 10 ∷ []

-- an outcome, and the reason in words, if one is told
abbrev pub told_text : Outcome → Option (List ℕ) → List ℕ
told_text outcome reason = line_text (told_value outcome reason)
