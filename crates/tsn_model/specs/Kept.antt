-- Gates that keep those that a schedule asks for, but open the scheduled class for longer and the others for less (IEEE Std 802.1Q-2018, clause 8.6.8.4).
--     KeepsOctet, IsKept      the gates of a link at an instant
--     KeepsWantedGates        those of all links that a stream uses
use Rattle.std.specs.Prelude.{◌≢◌, ℕ, ◌%◌, List, All, IsBitSet, bit_and}
use Rattle.tsn_model.specs.Network.{Network}
use Rattle.tsn_model.specs.Timing.{UsesLink}
use Rattle.tsn_model.specs.Gates.{IsOctetAt, IsWanted}
use Rattle.tsn_model.specs.Bridge.{LinkGates, GatesAt}

-- where the wanted octet opens the scheduled class, so does this one; and where this one opens another class, so does the wanted one
pub record KeepsOctet (wanted octet : ℕ) : Type 0 where
  pub scheduled : IsBitSet wanted 7 → IsBitSet octet 7
  pub others : bit_and octet 0x7F ≢ 0 → bit_and wanted 0x7F ≢ 0

-- the octet keeps the gates that the schedule asks for on the link at instant t of the cycle
abbrev pub IsKept : Network → List ℕ → ℕ → ℕ → ℕ → Type 0
IsKept network offsets link t octet = (wanted : ℕ) × IsWanted network offsets link t wanted × KeepsOctet wanted octet

-- on each link that a stream uses the listed gates keep those that the schedule asks for, and each such link is listed
pub record KeepsWantedGates (network : Network) (offsets : List ℕ) (gates : List LinkGates) : Type 0 where
  pub kept : All (λ (item : LinkGates). (i t octet : ℕ) → UsesLink network i item.link → IsOctetAt item.entries t octet → IsKept network offsets item.link (t % network.cycle) octet) gates
  pub listed : (i link t : ℕ) → UsesLink network i link → GatesAt gates link t (λ octet. IsKept network offsets link (t % network.cycle) octet)
