-- The entries of a gate control list.
--     octet_at, HasOctet, KeepsOctets, Appends      what they show when
--     AllLast, LastsOrNone                 how long they last
--     IsTimeline                           entries that are being made
--     IsGateList                           what every list keeps
use Rattle.std.specs.Prelude.{◌≡◌, ◌≢◌, ℕ, ◌+◌, ◌-◌, ◌≤◌, ◌<◌, ◌⊎◌, List, [], ◌∷◌, length, All, if◌then◌else◌, nat_lt}
use Rattle.std.specs.List.{AllAdjacentBelow}
use Rattle.tsn_model.specs.declared.GateEntry.{GateEntry}
use Rattle.tsn_model.specs.Gates.{cycle_of}

-- the octet at instant t, counted from the first entry's start; 0 past the last one's end
unfoldable pub octet_at : List GateEntry → ℕ → ℕ
octet_at [] t = 0
octet_at (entry ∷ entries) t = (if nat_lt t entry.interval then entry.octet else octet_at entries (t - entry.interval))

-- the octet stands at each instant from `start` on and before `end`
abbrev pub HasOctet : List GateEntry → ℕ → ℕ → ℕ → Type 0
HasOctet entries start end octet = (t : ℕ) → start ≤ t → t < end → octet_at entries t ≡ octet

-- both show the same before `end`
abbrev pub KeepsOctets : List GateEntry → List GateEntry → ℕ → Type 0
KeepsOctets old new end = (t : ℕ) → t < end → octet_at new t ≡ octet_at old t

-- each entry lasts at least 1 ns
abbrev pub AllPositive : List GateEntry → Type 0
AllPositive entries = All (λ entry. 1 ≤ entry.interval) entries

-- neighbours show different octets
abbrev pub NeighboursDiffer : List GateEntry → Type 0
NeighboursDiffer entries = AllAdjacentBelow (λ a b. a.octet ≢ b.octet) entries (length entries)

-- each entry lasts so long
abbrev pub AllLast : ℕ → List GateEntry → Type 0
AllLast least entries = All (λ entry. least ≤ entry.interval) entries

-- so long, or no time
abbrev pub LastsOrNone : ℕ → ℕ → Type 0
LastsOrNone least interval = (least ≤ interval) ⊎ (interval ≡ 0)

-- `new` shows the octet for the interval after all of `old`, and stays as tidy
pub record Appends (old new : List GateEntry) (interval octet : ℕ) : Type 0 where
  pub whole : cycle_of new ≡ cycle_of old + interval
  pub before : KeepsOctets old new (cycle_of old)
  pub shown : HasOctet new (cycle_of old) (cycle_of old + interval) octet
  pub positive : AllPositive old → AllPositive new
  pub differ : NeighboursDiffer old → NeighboursDiffer new
  pub long : (least : ℕ) → least ≤ interval → AllLast least old → AllLast least new

-- entries from the cycle's start to `end`, as few as there can be
pub record IsTimeline (entries : List GateEntry) (end : ℕ) : Type 0 where
  pub whole : cycle_of entries ≡ end
  pub positive : AllPositive entries
  pub differ : NeighboursDiffer entries

-- a list that can be played: some entry, each of at least 1 ns, and no longer than the longest cycle
pub record IsGateList (entries : List GateEntry) : Type 0 where
  pub some_entry : 0 < length entries
  pub positive : AllPositive entries
  pub short : cycle_of entries ≤ 1000000000
