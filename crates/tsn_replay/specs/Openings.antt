-- When the gates of one list are open.
use Rattle.std.specs.Prelude.{◌≡◌, ◌≢◌, ℕ, ◌+◌, ◌≤◌, ◌<◌, List, length, slice_index, slice_index_or, take, All, AllPairs, IsBitSet, bit_and}
use Rattle.tsn_model.specs.Network.{Network, stream_count, hop_count, route_link}
use Rattle.tsn_model.specs.declared.GateEntry.{GateEntry}
use Rattle.tsn_model.specs.Gates.{IsOctetAt, cycle_of}
use Rattle.tsn_model.specs.Bridge.{LinkGates, BackgroundFrame, Background, frame_at}
use Rattle.tsn_model.specs.Bridge.Background.{nothing, greedy, frames}
use Rattle.tsn_replay.specs.Bounds.{latest_instant}

-- the end of each entry, counted from the first one's start
pub record AreEnds (entries : List GateEntry) (ends : List ℕ) : Type 0 where
  pub count : length ends ≡ length entries
  pub each : (k : ℕ) → k < length entries → slice_index ends k ≡ cycle_of (take (k + 1) entries)

-- the entry within which that instant of the cycle falls
pub record IsEntryAt (entries : List GateEntry) (phase index : ℕ) : Type 0 where
  pub within : index < length entries
  pub begun : cycle_of (take index entries) ≤ phase
  pub not_ended : phase < cycle_of (take (index + 1) entries)

-- at instant t the octet has the property
pub record OctetHas (entries : List GateEntry) (t : ℕ) (P : ℕ → Type 0) : Type 0 where
  pub octet : ℕ
  pub at : IsOctetAt entries t octet
  pub has : P octet

-- the scheduled class is open
abbrev pub OpensScheduled : ℕ → Type 0
OpensScheduled octet = IsBitSet octet 7

-- some background class is open
abbrev pub OpensBackground : ℕ → Type 0
OpensBackground octet = bit_and octet 0x7F ≢ 0

-- the scheduled class is open from instant t for that long
abbrev pub IsOpenFor : List GateEntry → ℕ → ℕ → Type 0
IsOpenFor entries length t = (u : ℕ) → t ≤ u → u < t + length → OctetHas entries u OpensScheduled

-- t is the first instant from `from` on with the property, or none before `end` has it
pub record IsFirstFrom (from end : ℕ) (P : ℕ → Type 0) (t : ℕ) : Type 0 where
  pub forward : from ≤ t
  pub none : (u : ℕ) → from ≤ u → u < t → u < end → ¬ P u
  pub here : t < end → P t

-- the lists of a replay: of different links of the network, one for each link that a stream uses
pub record HasLists (network : Network) (gates : List LinkGates) : Type 0 where
  pub links : All (λ (item : LinkGates). item.link < length network.links) gates
  pub distinct : AllPairs (λ (a b : LinkGates). a.link ≢ b.link) gates
  pub used : (i k : ℕ) → i < stream_count network → k < hop_count network i → (number : ℕ) × (number < length gates) × ((d : LinkGates) → (slice_index_or gates number d).link ≡ route_link network i k)

-- a background frame that waits on the link of a list, from a small instant on
pub record IsGivenFrame (network : Network) (gates : List LinkGates) (frame : BackgroundFrame) : Type 0 where
  pub exists : frame.link < length network.links
  pub listed : (number : ℕ) × (number < length gates) × ((d : LinkGates) → (slice_index_or gates number d).link ≡ frame.link)
  pub early : frame.wanted ≤ latest_instant
  pub short : frame.octets ≤ 1522

-- each background frame that is handed in waits on the link of a list, from a small instant on
abbrev pub HasBackground : Network → List LinkGates → Background → Type 0
HasBackground network gates nothing = Unit {0}
HasBackground network gates greedy = Unit {0}
HasBackground network gates (frames list) = (number : ℕ) → number < length list → IsGivenFrame network gates (frame_at list number)

-- by link the number of its list
pub record AreListNumbers (gates : List LinkGates) (links : ℕ) (numbers : List ℕ) : Type 0 where
  pub count : length numbers ≡ links
  pub of_list : (number : ℕ) (d : LinkGates) → number < length gates → slice_index numbers (slice_index_or gates number d).link ≡ number
