-- Merged lists: lists with fewer and longer entries, which keep the gates that a schedule asks for.
--     background_times, kept_times, IsSpared      what of the background's time is kept
--     StaysClosed, IsMergedOctet, IsWidened       the octets of a list that is changed
--     IsMerged, AreMerged                         what is made of lists
--     IsKeptList, AreMergedLists, AreListsBy      the lists of all links
use Rattle.std.specs.Prelude.{◌≡◌, ◌≢◌, ℕ, ◌+◌, ◌-◌, ◌*◌, ◌≤◌, ◌<◌, ◌⊎◌, ◌==◌, min, max, nat_le, if◌then◌else◌, List, [], ◌∷◌, length, slice_index_or, All, AllPairs, Any, Option, Some, None}
use Rattle.tsn_model.specs.declared.GateEntry.{GateEntry}
use Rattle.tsn_model.specs.Network.{Network}
use Rattle.tsn_model.specs.Gates.{cycle_of, IsOctetAt, closed_octet, scheduled_octet, background_octet}
use Rattle.tsn_model.specs.Bridge.{LinkGates}
use Rattle.tsn_model.specs.Kept.{IsKept}
use Rattle.tsn_gate.specs.declared.windows.Window.{Window}
use Rattle.tsn_gate.specs.Windows.{InSomeWindow}
use Rattle.tsn_gate.specs.Entries.{octet_at, AllLast, AllPositive, NeighboursDiffer, IsTimeline}
use Rattle.tsn_gate.specs.GateLists.{IsUsed, IsWantedList, AreWantedLists}

-- ---- what of the background's time is kept

-- the times of the background in a list whose first entry begins at `start`
unfoldable pub background_times : ℕ → List GateEntry → List Window
background_times start [] = []
background_times start (entry ∷ entries) =
    if entry.octet == background_octet
    then record { start = start; end = start + entry.interval } ∷ background_times (start + entry.interval) entries
    else background_times (start + entry.interval) entries

-- from when on a time can be kept: not before `from`, nor less than `least` after the cycle's start, unless it begins there
abbrev pub earliest : ℕ → ℕ → Window → ℕ
earliest least from time = if time.start == 0 then 0 else max time.start (max least from)

-- and until when: not up to less than `least` before the cycle's end, unless it ends there
abbrev pub latest : ℕ → ℕ → Window → ℕ
latest least cycle time = if time.end == cycle then cycle else min time.end (cycle - least)

-- the times that are kept, in order: each that has `least` left from its earliest start on; the next may begin once this one and what comes between them have lasted `least` each
unfoldable pub kept_times : ℕ → ℕ → ℕ → List Window → List Window
kept_times least cycle from [] = []
kept_times least cycle from (time ∷ times) =
    if nat_le (earliest least from time + least) (latest least cycle time)
    then record { start = earliest least from time; end = latest least cycle time } ∷ kept_times least cycle (earliest least from time + 2 * least) times
    else kept_times least cycle from times

-- those of a list
abbrev pub times_kept : ℕ → List GateEntry → List Window
times_kept least wanted = kept_times least (cycle_of wanted) 0 (background_times 0 wanted)

-- the instant stays the background's: it is in a time that is kept, and no later one begins within `least`
pub record IsSpared (least : ℕ) (kept : List Window) (t : ℕ) : Type 0 where
  pub inside : InSomeWindow kept t
  pub far : All (λ time. t < time.start → t + least < time.start) kept

-- ---- the octets of a list that is changed

-- from that instant on the time follows the background's: an instant of it comes right before, or it is the cycle's start and no window comes after the background's last time
abbrev pub FollowsBackground : ℕ → List GateEntry → List Window → ℕ → Type 0
FollowsBackground least wanted kept from =
    ((before : ℕ) × (before + 1 ≡ from) × IsSpared least kept before)
    ⊎ ((from ≡ 0) × ((t : ℕ) → t < cycle_of wanted → octet_at wanted t ≡ scheduled_octet → (later : ℕ) × (t < later) × IsSpared least kept later))

-- the scheduled class has `least` from that instant on, or needs none there
abbrev pub LeavesEnough : ℕ → ℕ → List Window → ℕ → Type 0
LeavesEnough least cycle kept until =
    (until ≡ cycle) ⊎ IsSpared least kept until
    ⊎ ((until + least ≤ cycle) × ((t : ℕ) → until ≤ t → t < until + least → ¬ IsSpared least kept t))

-- a guard, or what is left of it, stays closed at the instant: from the background's time on, for `least` or longer, and before the next window
pub record StaysClosed (least : ℕ) (wanted : List GateEntry) (kept : List Window) (t : ℕ) : Type 0 where
  pub from : ℕ
  pub until : ℕ
  pub begun : from ≤ t
  pub not_ended : t < until
  pub long : from + least ≤ until
  pub within : until ≤ cycle_of wanted
  pub not_scheduled : (s : ℕ) → from ≤ s → s < until → octet_at wanted s ≢ scheduled_octet
  pub not_spared : (s : ℕ) → from ≤ s → s < until → ¬ IsSpared least kept s
  pub follows : FollowsBackground least wanted kept from
  pub enough : LeavesEnough least (cycle_of wanted) kept until

-- the background's where its time is kept, none in a guard that stays closed, and else the scheduled class's
abbrev pub IsMergedOctet : ℕ → List GateEntry → List Window → ℕ → ℕ → Type 0
IsMergedOctet least wanted kept t octet =
    (IsSpared least kept t × (octet ≡ background_octet))
    ⊎ ((¬ IsSpared least kept t) × StaysClosed least wanted kept t × (octet ≡ closed_octet))
    ⊎ ((¬ IsSpared least kept t) × (¬ StaysClosed least wanted kept t) × (octet ≡ scheduled_octet))

-- the entries of a list that is changed: as few as can be, each lasts `least` or the whole cycle
pub record IsWidened (least : ℕ) (wanted entries : List GateEntry) : Type 0 where
  pub timeline : IsTimeline entries (cycle_of wanted)
  pub shown : (t : ℕ) → t < cycle_of wanted → IsMergedOctet least wanted (times_kept least wanted) t (octet_at entries t)
  pub long : AllLast (min least (cycle_of wanted)) entries

-- the list of the same link, which stays as it is where each of its entries lasts `least`
pub record IsMerged (least : ℕ) (wanted list : LinkGates) : Type 0 where
  pub same_link : list.link ≡ wanted.link
  pub same : AllLast least wanted.entries → list.entries ≡ wanted.entries
  pub widened : ¬ AllLast least wanted.entries → IsWidened least wanted.entries list.entries

-- list by list
pub record AreMerged (least : ℕ) (wanted lists : List LinkGates) : Type 0 where
  pub count : length lists ≡ length wanted
  pub each : (k : ℕ) (d : LinkGates) → k < length wanted → IsMerged least (slice_index_or wanted k d) (slice_index_or lists k d)

-- ---- the lists of all links

-- at each instant of the cycle the list keeps the gates that the schedule asks for; it lasts the cycle, and neighbours differ
pub record IsKeptList (network : Network) (offsets : List ℕ) (list : LinkGates) : Type 0 where
  pub kept : (t octet : ℕ) → t < network.cycle → IsOctetAt list.entries t octet → IsKept network offsets list.link t octet
  pub positive : AllPositive list.entries
  pub differ : NeighboursDiffer list.entries
  pub whole : cycle_of list.entries ≡ network.cycle

-- all gates closed, the scheduled class alone open, or the background alone
abbrev pub IsPlainOctet : ℕ → Type 0
IsPlainOctet octet = (octet ≡ closed_octet) ⊎ (octet ≡ scheduled_octet) ⊎ (octet ≡ background_octet)

-- what is made of the link's wanted list
abbrev pub IsMergedList : Network → List ℕ → ℕ → LinkGates → Type 0
IsMergedList network offsets least list = (wanted : LinkGates) × IsWantedList network offsets wanted × IsMerged least wanted list

-- for each link that a stream uses a list that keeps the wanted gates, by link number, and no other list; each entry lasts at least so long, or the whole cycle; a list whose wanted
-- entries all do is the wanted one, and so by a least interval of 0 each is
pub record AreMergedLists (network : Network) (offsets : List ℕ) (least : ℕ) (lists : List LinkGates) : Type 0 where
  pub kept : All (IsKeptList network offsets) lists
  pub used : All (λ list. IsUsed network list.link) lists
  pub all_used : (link : ℕ) → IsUsed network link → Any (λ list. list.link ≡ link) lists
  pub in_order : AllPairs (λ a b. a.link < b.link) lists
  pub octets : All (λ list. All (λ entry. IsPlainOctet entry.octet) list.entries) lists
  pub long : All (λ list. AllLast (min least network.cycle) list.entries) lists
  pub merged : All (IsMergedList network offsets least) lists
  pub exact : least ≡ 0 → AreWantedLists network offsets lists

-- the lists of a schedule, as it asks for them or merged
abbrev pub AreListsBy : Option ℕ → Network → List ℕ → List LinkGates → Type 0
AreListsBy None network offsets lists = AreWantedLists network offsets lists
AreListsBy (Some least) network offsets lists = AreMergedLists network offsets least lists
