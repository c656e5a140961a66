-- Tables that grow by an entry.
use Rattle.std.proofs.Common.{ℕ, ◌+◌, List, [], ◌∷◌, ◌++◌, arith, length-append}
use Rattle.std.proofs.Math.ListN.{get_or-append}
use Rattle.std.proofs.lemmas.List.{get_or_push}
use Rattle.tsn_timing.specs.Tables.{AreRight}

pub right_none : {X : Type 0} (P : ℕ → X → Type 0) → AreRight P 0 []
right_none P = record { count = omega arith; each = λ k d below. absurd (omega arith) }

pub right_more : {X : Type 0} (P : ℕ → X → Type 0) (n : ℕ) (xs : List X) (x : X) → AreRight P n xs → P n x → AreRight P (n + 1) (xs ++ x ∷ [])
right_more {X} P n xs x right here = grind (arith, length-append, get_or-append, get_or_push)
