-- The numbers that tellers post.
--     no_flowspan, IsFlowspan, IsIncumbent
use Rattle.std.specs.Prelude.{◌≡◌, ◌⊎◌, ℕ, ◌+◌, List}
use Rattle.tsn_model.specs.Network.{Network}
use Rattle.tsn_model.specs.Schedule.{IsValid, flowspan}

-- one more than the cycle, which is past every flowspan
abbrev pub no_flowspan : Network → ℕ
no_flowspan network = network.cycle + 1

-- a valid schedule has this flowspan
pub record IsFlowspan (network : Network) (number : ℕ) : Type 0 where
  pub offsets : List ℕ
  pub valid : IsValid network offsets
  pub spans : flowspan network offsets ≡ number

-- one more than the cycle, or the flowspan of a valid schedule
abbrev pub IsIncumbent : Network → ℕ → Type 0
IsIncumbent network number = (number ≡ no_flowspan network) ⊎ IsFlowspan network number
