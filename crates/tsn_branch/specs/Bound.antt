-- What no schedule undercuts.
--     IsLowerBound     what no valid schedule's flowspan is below
--     HasBoundAt       the bound with which a node is pruned
use Rattle.std.specs.Prelude.{◌≡◌, ℕ, ◌≤◌, List}
use Rattle.tsn_model.specs.Network.{Network}
use Rattle.tsn_model.specs.Schedule.{IsValid, flowspan}
use Rattle.tsn_model.specs.Search.{Outcome, split, solved, pruned, tied, refuted}

-- no valid schedule's flowspan is below the bound
abbrev pub IsLowerBound : Network → ℕ → Type 0
IsLowerBound network bound = (offsets : List ℕ) → IsValid network offsets → bound ≤ flowspan network offsets

-- the bound with which the node is pruned, else 0
abbrev pub HasBoundAt : Outcome → ℕ → Type 0
HasBoundAt (split triple) bound = bound ≡ 0
HasBoundAt (solved offsets least leaf chains) bound = bound ≡ 0
HasBoundAt (pruned least leaf) bound = bound ≡ least
HasBoundAt (tied least leaf chains) bound = bound ≡ 0
HasBoundAt (refuted leaf) bound = bound ≡ 0
