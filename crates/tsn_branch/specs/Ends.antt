-- When the streams are done by a list of offsets, and by one that was raised from another.
use Rattle.std.specs.Prelude.{◌≡◌, ℕ, ◌<◌, ◌≤◌, List, length, Contains}
use Rattle.tsn_model.specs.Network.{Network, stream_count}
use Rattle.tsn_model.specs.Schedule.{offset_of, flowspan}
use Rattle.tsn_branch.specs.Look.{IsDone, AllFit, IsFirstOverrun, IsFirstLast}
use Rattle.tsn_branch.specs.declared.instants.Ends.{Ends}
use Rattle.tsn_branch.specs.declared.instants.Ends.TheVariants.{Overrun, Within}

-- the first stream that isn't done in time; or, where all are, the first that arrives last, and when
abbrev pub AreEnds : Network → List ℕ → Ends → Type 0
AreEnds network offsets (Overrun stream) = IsFirstOverrun network offsets stream
AreEnds network offsets (Within last end) = AllFit network offsets × IsFirstLast network offsets last × (end ≡ flowspan network offsets)

-- all offsets are as before but those of the raised streams, which aren't less
pub record AreRaised (raised before offsets : List ℕ) : Type 0 where
  pub count : length before ≡ length offsets
  pub risen : (i : ℕ) → offset_of before i ≤ offset_of offsets i
  pub others : (i : ℕ) → (Contains raised i → ⊥) → offset_of offsets i ≡ offset_of before i

-- before some streams were raised, all were done in time, this one arrived last, the first that did, and then
pub record Ended (network : Network) (before : List ℕ) (last end : ℕ) : Type 0 where
  pub fit : AllFit network before
  pub last_first : IsFirstLast network before last
  pub end_is : end ≡ flowspan network before

-- the same of some list from which these offsets were raised
pub record EndedBefore (network : Network) (raised offsets : List ℕ) (last end : ℕ) : Type 0 where
  pub before : List ℕ
  pub rose : AreRaised raised before offsets
  pub ended : Ended network before last end

-- each stream that wasn't raised is done in time
abbrev pub OthersFit : Network → List ℕ → List ℕ → Type 0
OthersFit network raised offsets = (i : ℕ) → i < stream_count network → (Contains raised i → ⊥) → IsDone network offsets i
