-- The gate control lists that a schedule asks for.
--     IsWantedList, IsListOf       that of one link
--     IsUsed, AreWantedLists       those of all links
use Rattle.std.specs.Prelude.{◌≡◌, ℕ, ◌<◌, List, All, AllPairs, Any}
use Rattle.tsn_model.specs.Network.{Network}
use Rattle.tsn_model.specs.Timing.{UsesLink}
use Rattle.tsn_model.specs.Gates.{cycle_of, IsOctetAt, IsWanted}
use Rattle.tsn_model.specs.Bridge.{LinkGates}
use Rattle.tsn_gate.specs.Entries.{AllPositive, NeighboursDiffer}

-- at each instant of the cycle the list has the wanted gates; it lasts the cycle, in as few entries as can be
pub record IsWantedList (network : Network) (offsets : List ℕ) (list : LinkGates) : Type 0 where
  pub wanted : (t octet : ℕ) → t < network.cycle → IsOctetAt list.entries t octet → IsWanted network offsets list.link t octet
  pub positive : AllPositive list.entries
  pub differ : NeighboursDiffer list.entries
  pub whole : cycle_of list.entries ≡ network.cycle

-- some stream uses the link
abbrev pub IsUsed : Network → ℕ → Type 0
IsUsed network link = (i : ℕ) × UsesLink network i link

-- the wanted list of that link, which some stream uses
pub record IsListOf (network : Network) (offsets : List ℕ) (link : ℕ) (list : LinkGates) : Type 0 where
  pub same_link : list.link ≡ link
  pub used : IsUsed network link
  pub wanted : IsWantedList network offsets list

-- for each link that a stream uses its wanted list, by link number, and no other list
pub record AreWantedLists (network : Network) (offsets : List ℕ) (lists : List LinkGates) : Type 0 where
  pub wanted : All (IsWantedList network offsets) lists
  pub used : All (λ list. IsUsed network list.link) lists
  pub all_used : (link : ℕ) → IsUsed network link → Any (λ list. list.link ≡ link) lists
  pub in_order : AllPairs (λ a b. a.link < b.link) lists
