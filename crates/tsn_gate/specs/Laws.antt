-- The laws of the lists that a schedule asks for, and of merged ones, each the contract of a function in `tsn_laws/src/gates.rt`.
use Rattle.std.specs.Prelude.{◌≡◌, ℕ, ◌+◌, ◌*◌, ◌≤◌, ◌<◌, List, length, take, slice_index_or, Option}
use Rattle.tsn_model.specs.declared.GateEntry.{GateEntry}
use Rattle.tsn_model.specs.Network.{Network}
use Rattle.tsn_model.specs.Gates.{cycle_of, background_octet}
use Rattle.tsn_model.specs.Bridge.{LinkGates}
use Rattle.tsn_gate.specs.GateLists.{AreWantedLists}
use Rattle.tsn_gate.specs.Entries.{octet_at}
use Rattle.tsn_gate.specs.Merged.{AreListsBy, IsWidened}

-- a schedule asks for one list of lists alone
abbrev pub WantedListsAreUnique : Type 0
WantedListsAreUnique = (network : Network) (offsets : List ℕ) (lists others : List LinkGates) → AreWantedLists network offsets lists → AreWantedLists network offsets others → lists ≡ others

-- nor is there a choice among merged lists: by the same least interval, or none, whoever makes them makes the same
abbrev pub ListsByAreUnique : Type 0
ListsByAreUnique = (merge : Option ℕ) (network : Network) (offsets : List ℕ) (lists others : List LinkGates) → AreListsBy merge network offsets lists → AreListsBy merge network offsets others → lists ≡ others

-- Of each entry in which a list leaves three times the least interval to the background, what is made of the list takes the least interval at each end, and no more.
abbrev pub WideTimesAreSpared : Type 0
WideTimesAreSpared = (least : ℕ) (wanted entries : List GateEntry) → 1 ≤ least → IsWidened least wanted entries → (k : ℕ) (d : GateEntry) → k < length wanted
    → (slice_index_or wanted k d).octet ≡ background_octet → 3 * least ≤ (slice_index_or wanted k d).interval
    → (t : ℕ) → cycle_of (take k wanted) + least ≤ t → t + least < cycle_of (take k wanted) + (slice_index_or wanted k d).interval → octet_at entries t ≡ background_octet
