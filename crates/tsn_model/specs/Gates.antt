-- Gate control lists (IEEE Std 802.1Q-2018, clause 8.6.8.4), and the gates that a schedule asks for.
--     cycle_of, IsOctetAt                 a list, and its gates at an instant
--     InWindow, InGuard, IsWanted         a link's windows and guards
use Rattle.std.specs.Prelude.{◌≡◌, ℕ, ◌+◌, ◌*◌, ◌%◌, ◌≤◌, ◌<◌, ◌⊎◌, List, ◌∷◌, ◌++◌, sum_by}
use Rattle.tsn_model.specs.declared.GateEntry.{GateEntry}
use Rattle.tsn_model.specs.Network.{Network, link_at}
use Rattle.tsn_model.specs.Timing.{Sends, UsesLink, start_on}
use Rattle.tsn_model.specs.Schedule.{offset_of, Occupies}

-- the time after which the list repeats
unfoldable pub cycle_of : List GateEntry → ℕ
cycle_of entries = sum_by (λ entry. entry.interval) entries

-- the gates at instant t, in any cycle: the octet of the entry within which t falls
pub record IsOctetAt (entries : List GateEntry) (t octet : ℕ) : Type 0 where
  pub before : List GateEntry
  pub after : List GateEntry
  pub entry : GateEntry
  pub split : entries ≡ before ++ entry ∷ after
  pub begun : cycle_of before ≤ t % cycle_of entries
  pub not_ended : t % cycle_of entries < cycle_of before + entry.interval
  pub octet_is : entry.octet ≡ octet

-- all gates closed; the scheduled class (7) alone open; the background classes (0 to 6) alone open
abbrev pub closed_octet : ℕ
closed_octet = 0x00

abbrev pub scheduled_octet : ℕ
scheduled_octet = 0x80

abbrev pub background_octet : ℕ
background_octet = 0x7F

-- how long before a window no background frame may start: as long as the greatest one (1522 octets and 20 more) occupies the link
unfoldable pub guard_of : Network → ℕ → ℕ
guard_of network link = 1542 * (link_at network link).octet_time

-- instant t of the cycle is in a scheduled frame's occupancy of the link
abbrev pub InWindow : Network → List ℕ → ℕ → ℕ → Type 0
InWindow network offsets link t = (i : ℕ) × UsesLink network i link × Occupies network offsets i link t

-- a window of this cycle or a later one begins after instant t, and no later than the guard's length after it
pub record InGuard (network : Network) (offsets : List ℕ) (link t : ℕ) : Type 0 where
  pub stream : ℕ
  pub shift : ℕ
  pub cycles : ℕ
  pub sent : Sends network stream shift
  pub uses : UsesLink network stream link
  pub not_begun : t < offset_of offsets stream + shift + start_on network stream link + cycles * network.cycle
  pub guarded : offset_of offsets stream + shift + start_on network stream link + cycles * network.cycle ≤ t + guard_of network link

-- the gates that the schedule asks for on the link at instant t of the cycle: in a window the scheduled class, else in a guard none, else the background
abbrev pub IsWanted : Network → List ℕ → ℕ → ℕ → ℕ → Type 0
IsWanted network offsets link t octet =
    (InWindow network offsets link t × (octet ≡ scheduled_octet))
    ⊎ ((¬ InWindow network offsets link t) × InGuard network offsets link t × (octet ≡ closed_octet))
    ⊎ ((¬ InWindow network offsets link t) × (¬ InGuard network offsets link t) × (octet ≡ background_octet))
