-- What is known of the bytes of readers and writers, by what their types tell.
--     has_no_more, is_over    a reader that has no byte left
--     known_of                what a reader has left, or a writer holds
use Rattle.std.specs.Prelude.{ℕ, List, [], ◌∷◌, Bool, true, false, Option, None, Some}

-- no byte is left, as far as is known
abbrev pub has_no_more : Option (List ℕ) → Bool
has_no_more None = true
has_no_more (Some []) = true
has_no_more (Some (byte ∷ bytes)) = false

-- a reader was opened, and has no byte left
abbrev pub is_over : {R : Type 0} → (R → Option (List ℕ)) → Option R → Bool
is_over remaining None = false
is_over remaining (Some reader) = has_no_more (remaining reader)

-- what is known of the bytes of a reader or a writer, if there is one
abbrev pub known_of : {D : Type 0} → (D → Option (List ℕ)) → Option D → Option (List ℕ)
known_of known None = None
known_of known (Some device) = known device
