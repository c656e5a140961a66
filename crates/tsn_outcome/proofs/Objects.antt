-- No value of an object that tells of an outcome is a number with a fraction.
use Rattle.std.proofs.Common.{◌≡◌, ℕ, List, Option, false, rules}
use Rattle.serde_json.specs.Written.{has_float}
use Rattle.tsn_outcome.specs.declared.outcome.Outcome.{Outcome}
use Rattle.tsn_outcome.specs.Told.{number_or_null, text_or_null, told_value}

text_no_float : (text : Option (List ℕ)) → has_float (text_or_null text) ≡ false
text_no_float text = search rules

number_no_float : (n : Option ℕ) → has_float (number_or_null n) ≡ false
number_no_float n = search rules

pub no_float : (outcome : Outcome) (reason : Option (List ℕ)) → has_float (told_value outcome reason) ≡ false
no_float outcome reason = simp (text_no_float, number_no_float)
