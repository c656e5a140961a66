-- The chains that show least offsets, and how far two lists of offsets have to be compared.
use Rattle.std.specs.Prelude.{◌≡◌, ℕ, ◌+◌, ◌≤◌, ◌⊎◌, List, map, length}
use Rattle.std.specs.List.{range_with_len}
use Rattle.tsn_model.specs.Schedule.{IsNotAfter, common}
use Rattle.tsn_diff.specs.Offsets.{LeastOffsets, chain_of}

-- the chains of the first n streams
abbrev pub chains_upto : LeastOffsets → ℕ → List (List ℕ)
chains_upto lowest n = map (chain_of lowest) (range_with_len 0 n)

-- the second list isn't after the first one, and this many streams go up to the first at which they differ, or else are all
pub record IsCompared (offsets best : List ℕ) (count : ℕ) : Type 0 where
  pub not_before : IsNotAfter best offsets
  pub some : 1 ≤ count
  pub within : count ≤ length offsets
  pub upto : (count ≡ common offsets best + 1) ⊎ ((count ≡ length offsets) × (common offsets best ≡ count))
