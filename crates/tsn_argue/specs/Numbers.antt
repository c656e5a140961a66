-- Numbers of the streams, as the checker keeps them.
use Rattle.std.specs.Prelude.{◌≡◌, ◌⊎◌, ℕ, ◌<◌, List, length, slice_index_or, ℤ, pos, All, Contains}

-- numbers of the streams, on the ground and in the view
pub record Pair : Type 0 where
  pub base : List ℤ
  pub view : List ℤ

-- the numbers of a stream are equal, but for the streams that were touched
pub record AreTouched (base view : List ℤ) (touched : List ℕ) : Type 0 where
  pub even : length view ≡ length base
  pub inside : All (λ i. i < length base) touched
  pub same : (i : ℕ) → (slice_index_or view i (pos 0) ≡ slice_index_or base i (pos 0)) ⊎ Contains touched i
