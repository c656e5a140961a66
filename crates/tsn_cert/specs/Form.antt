-- Forms: what a value of a file says, and what tokens say, of one thing. Both are written down at once, and are proved to say the same.
--     Form               one value
--     Row                the values of an array from some place on, one after another
use Rattle.std.specs.Prelude.{◌≡◌, ℕ, zero, suc, ℤ, pos, List, [], ◌∷◌, length, Bool, Option, Some, None, option_map, option_and_then, nat_le, ◌&&◌, if◌then◌else◌}
use Rattle.std.specs.Str.{bytes_eq}
use Rattle.std.specs.Option.{option_or}
use Rattle.json.specs.Token.{Token}
use Rattle.json.specs.Token as token
use Rattle.json.specs.Json.{Parse, parse_map, after_end_array}
use Rattle.serde_json.specs.Data.{Data}
use Rattle.serde_json.specs.Find.{as_str, as_u64}
use Rattle.serde_json.specs.Read.{converted, number_of}
use Rattle.tsn_cert.specs.Json.{when, whole_number, signed_of, signed_number, elements, each}

pub record Form (A : Type 0) : Type 0 where
  pub said : Data → Option A
  pub taken : Parse A

pub record Row (A : Type 0) : Type 0 where
  pub parts : List Data → Option A
  pub rest : Parse A

-- ---- tokens

-- what the text of a number says, by f
abbrev pub number_taken : {A : Type 0} → (List ℕ → Option A) → Parse A
number_taken f (token.number s ∷ ts) = option_map (λ a. (a, ts)) (f s)
number_taken f _ = None

abbrev pub string_taken : Parse (List ℕ)
string_taken (token.string s ∷ ts) = Some (s, ts)
string_taken _ = None

-- what follows the bracket that opens an array, where one stands
abbrev pub after_begin_array : List Token → Option (List Token)
after_begin_array (token.begin_array ∷ ts) = Some ts
after_begin_array _ = None

abbrev pub opened : {A : Type 0} → Parse A → Parse A
opened p ts = option_and_then p (after_begin_array ts)

abbrev pub closed : {A : Type 0} → A → Parse A
closed a ts = option_map (λ rest. (a, rest)) (after_end_array ts)

-- the elements up to the end of their array; the number bounds their count, and the count of the tokens is always enough
abbrev pub many_step : {A : Type 0} → Parse A → Parse (List A) → List Token → Option (List Token) → Option (List A × List Token)
many_step p more ts (Some rest) = Some ([], rest)
many_step p more ts None = option_and_then (λ x. parse_map (λ xs. x.0 ∷ xs) (more x.1)) (p ts)

unfoldable pub many : {A : Type 0} → Parse A → ℕ → Parse (List A)
many p zero ts = None
many p (suc n) ts = many_step p (many p n) ts (after_end_array ts)

abbrev pub elements_taken : {A : Type 0} → Parse A → Parse (List A)
elements_taken p ts = many p (length ts) ts

-- ---- one value

-- a number that `serde_json` gives as a `u64`
abbrev pub number : Form ℕ
number = record { said = whole_number; taken = number_taken (λ s. option_and_then as_u64 (number_of s)) }

-- a number that `serde_json` gives as an `i64` or a `u64`
abbrev pub signed : Form ℤ
signed = record { said = signed_number; taken = number_taken (λ s. option_and_then signed_of (number_of s)) }

abbrev pub text : Form (List ℕ)
text = record { said = as_str; taken = string_taken }

-- what f makes of it
abbrev pub made : {A B : Type 0} → (A → Option B) → Form A → Form B
made f form = record { said = λ d. option_and_then f (form.said d); taken = λ ts. converted f (form.taken ts) }

-- the first form, or else the second one
abbrev pub either : {A : Type 0} → Form A → Form A → Form A
either f g = record { said = λ d. option_or (f.said d) (g.said d); taken = λ ts. option_or (f.taken ts) (g.taken ts) }

abbrev pub array : {A : Type 0} → Row A → Form A
array row = record { said = λ d. option_and_then row.parts (elements d); taken = opened row.rest }

-- ---- the values of an array

abbrev pub no_parts : {A : Type 0} → A → List Data → Option A
no_parts a [] = Some a
no_parts a (d ∷ ds) = None

-- the array ends
abbrev pub over : {A : Type 0} → A → Row A
over a = record { parts = no_parts a; rest = closed a }

abbrev pub refused : {A : Type 0} → Row A
refused = record { parts = λ ds. None; rest = λ ts. None }

abbrev pub first_part : {A B : Type 0} → (Data → Option A) → (A → List Data → Option B) → List Data → Option B
first_part f k [] = None
first_part f k (d ∷ ds) = option_and_then (λ a. k a ds) (f d)

-- a value, and what stands behind it
abbrev pub next : {A B : Type 0} → Form A → (A → Row B) → Row B
next form k = record { parts = first_part form.said (λ a ds. (k a).parts ds); rest = λ ts. option_and_then (λ p. (k p.0).rest p.1) (form.taken ts) }

-- the first row, or else the second one
abbrev pub either_row : {A : Type 0} → Row A → Row A → Row A
either_row f g = record { parts = λ ds. option_or (f.parts ds) (g.parts ds); rest = λ ts. option_or (f.rest ts) (g.rest ts) }

-- what f makes of the values, where it makes something of them
abbrev pub checked : {A B : Type 0} → (A → Option B) → Row A → Row B
checked f row = record { parts = λ ds. option_and_then f (row.parts ds); rest = λ ts. converted f (row.rest ts) }

-- what f makes of the values
abbrev pub becomes : {A B : Type 0} → (A → B) → Row A → Row B
becomes f row = record { parts = λ ds. option_map f (row.parts ds); rest = λ ts. parse_map f (row.rest ts) }

abbrev pub parts_or : {A : Type 0} → A → (List Data → Option A) → List Data → Option A
parts_or a f [] = Some a
parts_or a f (d ∷ ds) = f (d ∷ ds)

-- the array ends, or goes on so
abbrev pub over_or : {A : Type 0} → A → Row A → Row A
over_or a row = record { parts = parts_or a row.parts; rest = λ ts. option_or (closed a ts) (row.rest ts) }

-- the row of a word
abbrev pub row_of : {A : Type 0} → List (List ℕ × Row A) → List ℕ → Row A
row_of [] word = refused
row_of (row ∷ rows) word = if bytes_eq word row.0 then row.1 else row_of rows word

-- an array of a word and what stands behind it
abbrev pub one_of : {A : Type 0} → List (List ℕ × Row A) → Form A
one_of rows = array (next text (row_of rows))

abbrev pub elements_row : {A : Type 0} → Form A → Row (List A)
elements_row form = record { parts = each form.said; rest = elements_taken form.taken }

abbrev pub list : {A : Type 0} → Form A → Form (List A)
list form = array (elements_row form)

-- a list of so many at least and at most
abbrev pub few : {A : Type 0} → ℕ → ℕ → Form A → Form (List A)
few least most form = made (λ xs. when (nat_le least (length xs) && nat_le (length xs) most) (Some xs)) (list form)

-- a number alone
abbrev pub number_row : Row ℕ
number_row = next number over
