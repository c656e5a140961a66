-- What the getters of the matches give, by the rows.
use Rattle.std.proofs.Common.{◌≡◌, ◌∙◌, ◌≤◌, List, All, Option, Some, None, option_map, sym, subst, map, length}
use Rattle.clap.specs.Words.{IsUnsignedIn, Text, all_of, matched_of, raw_values, rows_of}
use Rattle.clap.specs.declared.parser.matches.Found.{Found}
use Rattle.clap.proofs.WalkLemmas.{raw_values-rows}
use Rattle.tsn_words.specs.Grammar.{IsNumber}

-- a fact of the words of an argument in the rows is one of the words that are got
pub all_got : (found : Found) (id : Text) (o : Option (List Text)) (P : Option (List Text) → Type 0) → o ≡ option_map raw_values (matched_of found id) → P (all_of id (rows_of found)) → P o
all_got found id o P got h = subst P (sym (got ∙ raw_values-rows found id)) h

-- words within a range are numbers
pub are_numbers : (low high : Rattle.std.proofs.Common.ℕ) (words : List Text) → All (IsUnsignedIn low high) words → All IsNumber words
are_numbers low high words h k d lt = (h k d lt).0
