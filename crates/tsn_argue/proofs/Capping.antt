-- Offsets that don't come after the plan's, one stream at a time.
use Rattle.std.proofs.Common.{◌≡◌, ℕ, zero, suc, ◌<◌, List, [], ◌∷◌, ◌++◌, length, take, drop, get_or, set, ℤ, pos, ◌≤ℤ◌, ◌<ℤ◌, true, false, refl, ap, arith}
use Rattle.std.specs.Prelude.{int_le}
use Rattle.std.specs.Int.{int_min}
use Rattle.std.proofs.lemmas.Int.{ints, int_min_is}
use Rattle.tsn_model.specs.Argument.{capped}

int_le-yes : (a b : ℤ) → a ≤ℤ b → int_le a b ≡ true
int_le-yes a b is = grind (arith, ints)

int_le-no : (a b : ℤ) → b <ℤ a → int_le a b ≡ false
int_le-no a b is = grind (arith, ints)

min_turned : (a b : ℤ) → int_min a b ≡ int_min b a
min_turned a b = omega (arith, ints, int_min_is a b, int_min_is b a)

-- where a stream's least offset is the plan's, the next one is capped too
pub cap_on : (s : ℕ) (plan : List ℕ) (lows highs : List ℤ) → s < length plan → s < length lows → s < length highs
    → pos (get_or plan s 0) ≤ℤ get_or lows s (pos 0)
    → take (suc s) (set highs s (int_min (pos (get_or plan s 0)) (get_or highs s (pos 0)))) ++ capped (drop (suc s) plan) (drop (suc s) lows)
    (drop (suc s) (set highs s (int_min (pos (get_or plan s 0)) (get_or highs s (pos 0)))))
    ≡ take s highs ++ capped (drop s plan) (drop s lows) (drop s highs)
unfolding capped
cap_on s [] lows highs a b c is = absurd (omega arith)
cap_on s (p ∷ plan) [] highs a b c is = absurd (omega arith)
cap_on s (p ∷ plan) (l ∷ lows) [] a b c is = absurd (omega arith)
cap_on zero (p ∷ plan) (l ∷ lows) (h ∷ highs) a b c is = rw (int_le-yes (pos p) l is) (ap (λ m. m ∷ capped plan lows highs) (min_turned (pos p) h))
cap_on (suc s) (p ∷ plan) (l ∷ lows) (h ∷ highs) a b c is = ap (λ xs. h ∷ xs) (cap_on s plan lows highs (omega arith) (omega arith) (omega arith) is)

-- else it is the last one
pub cap_last : (s : ℕ) (plan : List ℕ) (lows highs : List ℤ) → s < length plan → s < length lows → s < length highs
    → get_or lows s (pos 0) <ℤ pos (get_or plan s 0)
    → set highs s (int_min (pos (get_or plan s 0)) (get_or highs s (pos 0))) ≡ take s highs ++ capped (drop s plan) (drop s lows) (drop s highs)
unfolding capped
cap_last s [] lows highs a b c is = absurd (omega arith)
cap_last s (p ∷ plan) [] highs a b c is = absurd (omega arith)
cap_last s (p ∷ plan) (l ∷ lows) [] a b c is = absurd (omega arith)
cap_last zero (p ∷ plan) (l ∷ lows) (h ∷ highs) a b c is = rw (int_le-no (pos p) l is) (ap (λ m. m ∷ highs) (min_turned (pos p) h))
cap_last (suc s) (p ∷ plan) (l ∷ lows) (h ∷ highs) a b c is = ap (λ xs. h ∷ xs) (cap_last s plan lows highs (omega arith) (omega arith) (omega arith) is)

-- behind the last stream nothing is capped
pub cap_done : (s : ℕ) (plan : List ℕ) (lows highs : List ℤ) → length plan ≡ s → length lows ≡ s → length highs ≡ s
    → take s highs ++ capped (drop s plan) (drop s lows) (drop s highs) ≡ highs
unfolding capped
cap_done zero [] [] [] a b c = refl
cap_done zero [] [] (h ∷ highs) a b c = absurd (omega arith)
cap_done zero [] (l ∷ lows) highs a b c = absurd (omega arith)
cap_done zero (p ∷ plan) lows highs a b c = absurd (omega arith)
cap_done (suc s) [] lows highs a b c = absurd (omega arith)
cap_done (suc s) (p ∷ plan) [] highs a b c = absurd (omega arith)
cap_done (suc s) (p ∷ plan) (l ∷ lows) [] a b c = absurd (omega arith)
cap_done (suc s) (p ∷ plan) (l ∷ lows) (h ∷ highs) a b c = ap (λ xs. h ∷ xs) (cap_done s plan lows highs (omega arith) (omega arith) (omega arith))
