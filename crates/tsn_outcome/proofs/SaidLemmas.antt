-- The line of an outcome, and what is known where the limit was met.
use Rattle.std.proofs.Common.{◌≡◌, ◌<◌, ◌++◌, ℕ, List, [], ◌∷◌, Some, IsTrue, codes, is_some, length, refl, arith, rules}
use Rattle.tsn_outcome.specs.declared.outcome.Outcome.{Outcome}
use Rattle.tsn_outcome.specs.Said.{ended, status_of, stop_of, text_if}

pub ended_more : (text : List ℕ) → 0 < length text → ended text ≡ text ++ codes "\n"
ended_more [] some = absurd (omega (arith, some))
ended_more (c ∷ text) some = refl

pub some_text : (text : List ℕ) → 0 < length text → text_if text ≡ Some text
some_text [] some = absurd (omega (arith, some))
some_text (c ∷ text) some = refl

-- what is known then is known where the status is that of a stop, and there alone
pub stop_known : (outcome : Outcome) → status_of outcome ≡ 5 → IsTrue (is_some (stop_of outcome))
stop_known outcome five = search rules

pub known_stop : (outcome : Outcome) → IsTrue (is_some (stop_of outcome)) → status_of outcome ≡ 5
known_stop outcome some = search rules
