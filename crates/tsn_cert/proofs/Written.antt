-- What is printed of a value is read again as that value.
use Rattle.std.proofs.Common.{◌≡◌, ◌≤◌, ◌<◌, ◌^◌, ℕ, pos, negsuc, List, [], ◌∷◌, ◌++◌, Bool, true, false, Some, IsUtf8, decimal, refl, sym, ap, ◌∙◌, arith, append-nil}
use Rattle.std.specs.Prelude.{⊤, option_map, option_and_then}
use Rattle.std.specs.Fmt.{signed_decimal}
use Rattle.std.proofs.lemmas.Str.{IsUtf8-append, IsUtf8-nil, IsUtf8-from_ascii}
use Rattle.std.proofs.lemmas.Fmt.{IsAscii-decimal, IsAscii-signed}
use Rattle.json.specs.Lex.{tokens}
use Rattle.json.specs.Json as json
use Rattle.json.specs.Print.{quoted}
use Rattle.json.specs.Tree as tree
use Rattle.json.specs.Tree.{json_tokens, HasNumbers, ItemsHaveNumbers, MembersHaveNumbers}
use Rattle.json.proofs.Printed.Utf8.{are_ascii, IsUtf8-are_ascii, IsUtf8-quoted}
use Rattle.json.proofs.Printed.Decimals.{IsNumber-decimal, IsNumber-signed_decimal}
use Rattle.json.proofs.Printed.Tokens.{tokens-print}
use Rattle.json.proofs.Printed.Trees.{value-json_tokens, ArePrintable-json_tokens}
use Rattle.serde_json.specs.Data.{Data, null, boolean, number, string, array, object, unsigned, negative, float, Items, no_items, item, Members, no_members, member, put, depth, items_depth, members_depth}
use Rattle.serde_json.specs.Read.{of_json, of_items, of_members, read, max_depth}
use Rattle.serde_json.specs.Written.{outline, items_outline, members_outline, comma_if, compact_text, items_text, members_text}
use Rattle.serde_json.proofs.Numbers.{number_of-decimal, number_of-negative}
use Rattle.serde_json.proofs.Texts.{print-outline}
use Rattle.tsn_cert.specs.Json.{value_of, file_text}
use Rattle.tsn_cert.proofs.JsonLemmas.{value_of-line_feed}

-- the members, put one after another behind those that were found
abbrev pub put_all : Members → Members → Members
put_all no_members found = found
put_all (member k d ms) found = put_all ms (put k d found)

-- whole numbers below 2^64, numbers below 0 from -2^63 on, ASCII words, nothing, and arrays and objects of these, the keys in order
abbrev mutual
  pub IsPlain : Data → Type 0
  IsPlain null = ⊤
  IsPlain (boolean b) = ⊥
  IsPlain (number (unsigned n)) = n < 2 ^ 64
  IsPlain (number (negative (pos n))) = ⊥
  IsPlain (number (negative (negsuc n))) = n < 2 ^ 63
  IsPlain (number (float x)) = ⊥
  IsPlain (string s) = are_ascii s ≡ true
  IsPlain (array ds) = ArePlain ds
  IsPlain (object ms) = HasPlain ms × (put_all ms no_members ≡ ms)

  pub ArePlain : Items → Type 0
  ArePlain no_items = ⊤
  ArePlain (item d ds) = IsPlain d × ArePlain ds

  pub HasPlain : Members → Type 0
  HasPlain no_members = ⊤
  HasPlain (member k d ms) = (are_ascii k ≡ true) × IsPlain d × HasPlain ms

mutual
  plain_read : (d : Data) → IsPlain d → of_json (outline d) ≡ Some d
  plain_read null h = refl
  plain_read (boolean b) h = absurd h
  plain_read (number (unsigned n)) h = ap (option_map number) (number_of-decimal n h)
  plain_read (number (negative (pos n))) h = absurd h
  plain_read (number (negative (negsuc n))) h = ap (option_map number) (number_of-negative n h)
  plain_read (number (float x)) h = absurd h
  plain_read (string s) h = refl
  plain_read (array ds) h = ap (option_map array) (plain_items_read ds h)
  plain_read (object ms) h = ap (option_map object) (plain_members_read ms no_members h.0 ∙ ap Some h.1)

  plain_items_read : (ds : Items) → ArePlain ds → of_items (items_outline ds) ≡ Some ds
  plain_items_read no_items h = refl
  plain_items_read (item d ds) h =
      ap (λ o. option_and_then (λ e. option_map (item e) (of_items (items_outline ds))) o) (plain_read d h.0)
      ∙ ap (option_map (item d)) (plain_items_read ds h.1)

  plain_members_read : (ms found : Members) → HasPlain ms → of_members (members_outline ms) found ≡ Some (put_all ms found)
  plain_members_read no_members found h = refl
  plain_members_read (member k d ms) found h =
      ap (λ o. option_and_then (λ e. of_members (members_outline ms) (put k e found)) o) (plain_read d h.1)
      ∙ plain_members_read ms (put k d found) h.2

mutual
  plain_numbers : (d : Data) → IsPlain d → HasNumbers (outline d)
  plain_numbers null h = tt
  plain_numbers (boolean b) h = absurd h
  plain_numbers (number (unsigned n)) h = IsNumber-decimal n h
  plain_numbers (number (negative (pos n))) h = absurd h
  plain_numbers (number (negative (negsuc n))) h = IsNumber-signed_decimal (negsuc n) h
  plain_numbers (number (float x)) h = absurd h
  plain_numbers (string s) h = tt
  plain_numbers (array ds) h = plain_items_numbers ds h
  plain_numbers (object ms) h = plain_members_numbers ms h.0

  plain_items_numbers : (ds : Items) → ArePlain ds → ItemsHaveNumbers (items_outline ds)
  plain_items_numbers no_items h = tt
  plain_items_numbers (item d ds) h = (plain_numbers d h.0, plain_items_numbers ds h.1)

  plain_members_numbers : (ms : Members) → HasPlain ms → MembersHaveNumbers (members_outline ms)
  plain_members_numbers no_members h = tt
  plain_members_numbers (member k d ms) h = (plain_numbers d h.1, plain_members_numbers ms h.2)

mutual
  outline_depth : (d : Data) → tree.depth (outline d) ≤ depth d
  outline_depth null = omega arith
  outline_depth (boolean b) = omega arith
  outline_depth (number n) = omega arith
  outline_depth (string s) = omega arith
  outline_depth (array ds) = omega (arith, items_outline_depth ds)
  outline_depth (object ms) = omega (arith, members_outline_depth ms)

  items_outline_depth : (ds : Items) → tree.items_depth (items_outline ds) ≤ items_depth ds
  items_outline_depth no_items = omega arith
  items_outline_depth (item d ds) = omega (arith, outline_depth d, items_outline_depth ds)

  members_outline_depth : (ms : Members) → tree.members_depth (members_outline ms) ≤ members_depth ms
  members_outline_depth no_members = omega arith
  members_outline_depth (member k d ms) = omega (arith, outline_depth d, members_outline_depth ms)

-- ---- the text is UTF-8

comma_utf8 : (later : Bool) → IsUtf8 (comma_if later)
comma_utf8 true = IsUtf8-are_ascii (44 ∷ []) refl
comma_utf8 false = IsUtf8-nil

behind_byte : (x : ℕ) (xs : List ℕ) → are_ascii (x ∷ []) ≡ true → IsUtf8 xs → IsUtf8 (x ∷ xs)
behind_byte x xs small rest = IsUtf8-append (x ∷ []) xs (IsUtf8-are_ascii (x ∷ []) small) rest

mutual
  plain_utf8 : (d : Data) → IsPlain d → IsUtf8 (compact_text d)
  plain_utf8 null h = IsUtf8-are_ascii (110 ∷ 117 ∷ 108 ∷ 108 ∷ []) refl
  plain_utf8 (boolean b) h = absurd h
  plain_utf8 (number (unsigned n)) h = IsUtf8-from_ascii (decimal n) (IsAscii-decimal n h)
  plain_utf8 (number (negative (pos n))) h = absurd h
  plain_utf8 (number (negative (negsuc n))) h = IsUtf8-from_ascii (signed_decimal (negsuc n)) (IsAscii-signed (negsuc n) h)
  plain_utf8 (number (float x)) h = absurd h
  plain_utf8 (string s) h = IsUtf8-quoted s (IsUtf8-are_ascii s h)
  plain_utf8 (array ds) h = behind_byte 91 (items_text false ds) refl (plain_items_utf8 false ds h)
  plain_utf8 (object ms) h = behind_byte 123 (members_text false ms) refl (plain_members_utf8 false ms h.0)

  plain_items_utf8 : (later : Bool) (ds : Items) → ArePlain ds → IsUtf8 (items_text later ds)
  plain_items_utf8 later no_items h = IsUtf8-are_ascii (93 ∷ []) refl
  plain_items_utf8 later (item d ds) h =
      let rest = IsUtf8-append (compact_text d) (items_text true ds) (plain_utf8 d h.0) (plain_items_utf8 true ds h.1) in
      IsUtf8-append (comma_if later) (compact_text d ++ items_text true ds) (comma_utf8 later) rest

  plain_members_utf8 : (later : Bool) (ms : Members) → HasPlain ms → IsUtf8 (members_text later ms)
  plain_members_utf8 later no_members h = IsUtf8-are_ascii (125 ∷ []) refl
  plain_members_utf8 later (member k d ms) h =
      let rest = IsUtf8-append (compact_text d) (members_text true ms) (plain_utf8 d h.1) (plain_members_utf8 true ms h.2) in
      let named = IsUtf8-append (quoted k) (58 ∷ (compact_text d ++ members_text true ms)) (IsUtf8-quoted k (IsUtf8-are_ascii k h.0))
      (behind_byte 58 (compact_text d ++ members_text true ms) refl rest) in
      IsUtf8-append (comma_if later) (quoted k ++ 58 ∷ (compact_text d ++ members_text true ms)) (comma_utf8 later) named

-- ---- read again

printed_read : (d : Data) → IsPlain d → depth d ≤ max_depth → read (compact_text d) ≡ Some d
printed_read d plain shallow =
    let written : tokens (compact_text d) ≡ json_tokens (outline d) ++ [] =
    sym (ap tokens (print-outline d)) ∙ tokens-print (json_tokens (outline d)) (ArePrintable-json_tokens (outline d) (plain_numbers d plain))
    ∙ sym (append-nil (json_tokens (outline d))) in
    ap (λ o. option_and_then of_json (option_and_then (λ p. json.if_last p.0 p.1) o))
    (ap (json.value max_depth) written ∙ value-json_tokens (outline d) max_depth [] (omega (arith, outline_depth d)))
    ∙ plain_read d plain

-- a file that holds the value says that value
pub file_read : (d : Data) → IsPlain d → depth d ≤ max_depth → value_of (file_text d) ≡ Some d
file_read d plain shallow =
    let utf8 = IsUtf8-append (compact_text d) (10 ∷ []) (plain_utf8 d plain) (IsUtf8-are_ascii (10 ∷ []) refl) in
    value_of-line_feed (compact_text d) d utf8 (printed_read d plain shallow)
