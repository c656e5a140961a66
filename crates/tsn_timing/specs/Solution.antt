-- A schedule with its flowspan.
use Rattle.std.specs.Prelude.{◌≡◌, ℕ, List}
use Rattle.tsn_model.specs.Network.{Network}
use Rattle.tsn_model.specs.Schedule.{IsValid, flowspan}

pub record Solution : Type 0 where
  pub offsets : List ℕ
  pub flowspan : ℕ

-- the schedule is valid, and this is its flowspan
abbrev pub IsSolved : Network → Solution → Type 0
IsSolved network solution = IsValid network solution.offsets × (flowspan network solution.offsets ≡ solution.flowspan)
