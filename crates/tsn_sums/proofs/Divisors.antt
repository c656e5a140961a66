-- Euclid's steps.
use Rattle.std.proofs.Common.{◌≡◌, ℕ, zero, suc, ◌%◌, ◌≤◌, ◌<◌, refl, arith}
use Rattle.std.specs.Int.{IsGcd}
use Rattle.std.proofs.lemmas.Nat.Gcd.{IsGcd-from_zero, IsGcd-from_mod}
use Rattle.std.proofs.Math.Nat.{mod-lt}
use Rattle.tsn_model.specs.Argument.{divisor_within, common_divisor}

-- one step
pub next_step : (steps a b : ℕ) → 0 < b → b < steps → (fewer : ℕ) × (b ≤ fewer) × (divisor_within steps a b ≡ divisor_within fewer b (a % b))
unfolding divisor_within
next_step zero a b some enough = absurd (omega arith)
next_step (suc steps) a zero some enough = absurd (omega arith)
next_step (suc steps) a (suc b) some enough = (steps, omega arith, refl)

-- the last step
pub last_step : (steps a : ℕ) → divisor_within steps a 0 ≡ a
unfolding divisor_within
last_step zero a = refl
last_step (suc steps) a = refl

within_is : (steps a b : ℕ) → b < steps → IsGcd a b (divisor_within steps a b)
unfolding divisor_within
within_is zero a b enough = absurd (omega arith)
within_is (suc steps) a zero enough = IsGcd-from_zero a 0 refl
within_is (suc steps) a (suc b) enough =
    let less : a % suc b < suc b = mod-lt a {m = suc b} (omega arith) in
    IsGcd-from_mod a (suc b) (divisor_within steps (suc b) (a % suc b)) (within_is steps (suc b) (a % suc b) (omega arith))

-- it is the greatest common divisor
pub common_is : (a b : ℕ) → IsGcd a b (common_divisor a b)
unfolding common_divisor
common_is a b = within_is (suc b) a b (omega arith)
