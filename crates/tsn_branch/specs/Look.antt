-- What a look at a node says.
--     AreLeast, HasNoOffsets                what the decisions of a path ask of the offsets
--     IsDone, IsFirstOverrun, AllFit, IsFirstLast   when the streams are done by these
--     first_frame, ShowsLink                the entries of a link's streams
--     IsTie, IsUntied                       a tie with the best schedule
--     IsLook                                the first case that holds, and what it holds
--     SplitsAmong, PrunesFrom, SolvesBelow   what else is right of an outcome whatever was settled before
--     TiesWith                              what a tie says of the best schedule
use Rattle.std.specs.Prelude.{◌≡◌, ℕ, ◌+◌, ◌≤◌, ◌<◌, ◌⊎◌, List, length, map, take, All, Contains, Option, MatchOption, IsSomeAnd, pos, ◌≤ℤ◌, ◌<ℤ◌}
use Rattle.tsn_model.specs.declared.Decision.{Decision}
use Rattle.tsn_model.specs.declared.Triple.{Triple}
use Rattle.tsn_model.specs.declared.Frame.{Frame}
use Rattle.tsn_model.specs.Network.{Network, stream_count, period_of, latest_of}
use Rattle.tsn_model.specs.Timing.{Sends, arrival, span}
use Rattle.tsn_model.specs.Schedule.{IsValid, flowspan, offset_of, IsConflict, FitsPeriod, IsReleased, IsInTime, IsFirstOverlap, ComesBefore, IsNotAfter, common}
use Rattle.tsn_model.specs.Arcs.{arcs_of, HoldsAll}
use Rattle.tsn_model.specs.Certificate.{Leaf, late, overrun, positive_cycle, load, overload, Entry, LeadsTo, sum_on, Proves, HasBound, AreChains, ShowsAfter}
use Rattle.tsn_model.specs.Search.{Outcome, split, solved, pruned, tied, refuted, Refutes, ShowsOffsets}
use Rattle.tsn_timing.specs.Solution.{Solution}
use Rattle.tsn_conflict.specs.Path.{IsUndecided}
use Rattle.tsn_branch.specs.Links.{users_of, shared_links, busy_by, load_by, IsUnloaded, IsFirstLoaded}

-- ---- offsets on a path

-- no offsets hold the path's arcs
abbrev pub HasNoOffsets : Network → List Decision → Type 0
HasNoOffsets network path = (offsets : List ℕ) → HoldsAll offsets (arcs_of network path) → ⊥

-- each stream starts no sooner than its release
abbrev pub AreReleased : Network → List ℕ → Type 0
AreReleased network offsets = (i : ℕ) → i < stream_count network → IsReleased network offsets i

-- the least offsets, one a stream and none before its release, that hold the path's arcs: each is at most that of every other such list
pub record AreLeast (network : Network) (path : List Decision) (offsets : List ℕ) : Type 0 where
  pub count : length offsets ≡ stream_count network
  pub released : AreReleased network offsets
  pub held : HoldsAll offsets (arcs_of network path)
  pub least : (other : List ℕ) → length other ≡ stream_count network → AreReleased network other → HoldsAll other (arcs_of network path)
      → (i : ℕ) → i < stream_count network → offset_of offsets i ≤ offset_of other i

-- the chain leads to stream i, and its sum is the stream's offset
pub record IsShownBy (network : Network) (path : List Decision) (offsets : List ℕ) (i : ℕ) (chain : List ℕ) : Type 0 where
  pub leads : LeadsTo network path chain i
  pub sum : sum_on network path chain i ≡ pos (offset_of offsets i)

-- ---- when streams are done

-- stream i, put at its offset, is done within its period and arrives by its latest instant
abbrev pub IsDone : Network → List ℕ → ℕ → Type 0
IsDone network offsets i = FitsPeriod network offsets i × IsInTime network offsets i

-- or it isn't
abbrev pub IsOverdue : Network → List ℕ → ℕ → Type 0
IsOverdue network offsets i = (period_of network i < offset_of offsets i + span network i) ⊎ (latest_of network i < offset_of offsets i + arrival network i)

-- the first stream that isn't
pub record IsFirstOverrun (network : Network) (offsets : List ℕ) (i : ℕ) : Type 0 where
  pub counted : i < stream_count network
  pub past : IsOverdue network offsets i
  pub done_before : (j : ℕ) → j < i → IsDone network offsets j

-- each stream is
abbrev pub AllFit : Network → List ℕ → Type 0
AllFit network offsets = (i : ℕ) → i < stream_count network → IsDone network offsets i

-- the first stream that arrives at the flowspan
pub record IsFirstLast (network : Network) (offsets : List ℕ) (i : ℕ) : Type 0 where
  pub counted : i < stream_count network
  pub arrives : offset_of offsets i + arrival network i ≡ flowspan network offsets
  pub sooner_before : (j : ℕ) → j < i → offset_of offsets j + arrival network j < flowspan network offsets

-- ---- links

-- a stream's first frame
abbrev pub first_frame : ℕ → Frame
first_frame i = record { stream = i; shift = 0 }

-- the entries are of the first frames of all the link's streams, in order, and each one's chain shows its stream's offset
pub record ShowsLink (network : Network) (path : List Decision) (offsets : List ℕ) (link : ℕ) (entries : List Entry) : Type 0 where
  pub frames : map (λ entry. entry.frame) entries ≡ map first_frame (users_of network link)
  pub sent : All (λ entry. Sends network entry.frame.stream entry.frame.shift) entries
  pub chains : All (λ entry. IsShownBy network path offsets entry.frame.stream entry.chain) entries

-- ---- the cases

-- a cycle shows that no offsets hold the path's arcs; or by the least ones a stream isn't done in time, as its chain shows;
-- or by these all streams are done in time, the flowspan is below the target, and the first loaded link is busy behind the cycle
abbrev pub IsRefutation : Network → List Decision → ℕ → Leaf → Type 0
IsRefutation network path target (late i chain) = ⊥
IsRefutation network path target (overrun i chain) = (offsets : List ℕ) × AreLeast network path offsets × IsFirstOverrun network offsets i × IsShownBy network path offsets i chain
IsRefutation network path target (positive_cycle chain) = HasNoOffsets network path × Refutes network path (positive_cycle chain)
IsRefutation network path target (load link entries) = ⊥
IsRefutation network path target (overload link entries) =
    (offsets : List ℕ) × AreLeast network path offsets × AllFit network offsets × (flowspan network offsets < target)
    × IsFirstLoaded network offsets target link × (pos network.cycle <ℤ busy_by network offsets link) × ShowsLink network path offsets link entries

-- the leaf shows the flowspan of the offsets, by the first stream that arrives then
abbrev pub ShowsFlowspan : Network → List Decision → List ℕ → Leaf → Type 0
ShowsFlowspan network path offsets (late i chain) = IsFirstLast network offsets i × IsShownBy network path offsets i chain
ShowsFlowspan network path offsets (overrun i chain) = ⊥
ShowsFlowspan network path offsets (positive_cycle chain) = ⊥
ShowsFlowspan network path offsets (load link entries) = ⊥
ShowsFlowspan network path offsets (overload link entries) = ⊥

-- by the least offsets all streams are done in time, and the flowspan is at least the target; or it is not, and the first loaded link
-- is done within the cycle but asks for a flowspan of at least the target
abbrev pub IsPruning : Network → List Decision → ℕ → ℕ → Leaf → Type 0
IsPruning network path target bound (late i chain) =
    (offsets : List ℕ) × AreLeast network path offsets × AllFit network offsets
    × (bound ≡ flowspan network offsets) × (target ≤ bound) × ShowsFlowspan network path offsets (late i chain)
IsPruning network path target bound (overrun i chain) = ⊥
IsPruning network path target bound (positive_cycle chain) = ⊥
IsPruning network path target bound (load link entries) =
    (offsets : List ℕ) × AreLeast network path offsets × AllFit network offsets × (flowspan network offsets < target)
    × IsFirstLoaded network offsets target link × (busy_by network offsets link ≤ℤ pos network.cycle)
    × (pos bound ≡ load_by network offsets link) × (target ≤ bound) × ShowsLink network path offsets link entries
IsPruning network path target bound (overload link entries) = ⊥

-- the chains show these offsets, up to those of the first stream at which the other ones differ, or else all
abbrev pub ShowsUpto : Network → List Decision → List ℕ → List ℕ → List (List ℕ) → Type 0
ShowsUpto network path offsets others chains = (all : List (List ℕ)) × ShowsOffsets network path all offsets × (chains ≡ take (common offsets others + 1) all)

-- the node isn't pruned at the target, but with the best schedule's flowspan for a target it is, by that leaf; and its least offsets
-- don't come before the best schedule, as the chains show
pub record IsTie (network : Network) (path : List Decision) (target : ℕ) (best : Solution) (bound : ℕ) (leaf : Leaf) (chains : List (List ℕ)) : Type 0 where
  pub pruned_by_best : IsPruning network path best.flowspan bound leaf
  pub offsets : List ℕ
  pub are_least : AreLeast network path offsets
  pub fit : AllFit network offsets
  pub below : flowspan network offsets < target
  pub unloaded : All (IsUnloaded network offsets target) (shared_links network)
  pub not_before : IsNotAfter best.offsets offsets
  pub shown : ShowsUpto network path offsets best.offsets chains

-- no schedule is the best yet, or the offsets come before it, or their flowspan and the load of each link are below its flowspan
abbrev pub IsUntied : Network → List ℕ → Option Solution → Type 0
IsUntied network offsets best =
    MatchOption best (Unit {0}) (λ solution. ComesBefore offsets solution.offsets
    ⊎ ((flowspan network offsets < solution.flowspan) × All (IsUnloaded network offsets solution.flowspan) (shared_links network)))

-- refuted; or by the least offsets all streams are done in time, and then pruned where their flowspan is at least the target;
-- refuted or pruned where a link is loaded; tied where it would be pruned with the best schedule's flowspan for a target, and
-- the least offsets don't come before that schedule; else split on the first overlap; and solved where there is none
abbrev pub IsLook : Network → List Decision → ℕ → Option Solution → Outcome → Type 0
IsLook network path target best (refuted leaf) = IsRefutation network path target leaf
IsLook network path target best (pruned bound leaf) = IsPruning network path target bound leaf
IsLook network path target best (tied bound leaf chains) = IsSomeAnd best (λ solution. IsTie network path target solution bound leaf chains)
IsLook network path target best (split triple) =
    (offsets : List ℕ) × AreLeast network path offsets × AllFit network offsets
    × (flowspan network offsets < target) × IsFirstOverlap network offsets triple
    × All (IsUnloaded network offsets target) (shared_links network) × IsUntied network offsets best
IsLook network path target best (solved offsets bound leaf chains) =
    AreLeast network path offsets × IsValid network offsets
    × (bound ≡ flowspan network offsets) × (bound < target) × ShowsFlowspan network path offsets leaf
    × All (IsUnloaded network offsets target) (shared_links network)
    × ShowsOffsets network path chains offsets × IsUntied network offsets best

-- ---- what else is right of an outcome

-- a split is on one of these triples
abbrev pub SplitsAmong : List Triple → Outcome → Type 0
SplitsAmong triples (split triple) = Contains triples triple
SplitsAmong triples (solved offsets bound leaf chains) = Unit {0}
SplitsAmong triples (pruned bound leaf) = Unit {0}
SplitsAmong triples (tied bound leaf chains) = Unit {0}
SplitsAmong triples (refuted leaf) = Unit {0}

-- a pruned bound is at least the target
abbrev pub PrunesFrom : ℕ → Outcome → Type 0
PrunesFrom target (split triple) = Unit {0}
PrunesFrom target (solved offsets bound leaf chains) = Unit {0}
PrunesFrom target (pruned bound leaf) = target ≤ bound
PrunesFrom target (tied bound leaf chains) = Unit {0}
PrunesFrom target (refuted leaf) = Unit {0}

-- a solved bound is below the target
abbrev pub SolvesBelow : ℕ → Outcome → Type 0
SolvesBelow target (split triple) = Unit {0}
SolvesBelow target (solved offsets bound leaf chains) = bound < target
SolvesBelow target (pruned bound leaf) = Unit {0}
SolvesBelow target (tied bound leaf chains) = Unit {0}
SolvesBelow target (refuted leaf) = Unit {0}

-- a tied bound is at least the flowspan of the best schedule, and the chains show that no schedule on the path comes before that
abbrev pub TiesWith : Network → List Decision → Option Solution → Outcome → Type 0
TiesWith network path best (split triple) = Unit {0}
TiesWith network path best (solved offsets bound leaf chains) = Unit {0}
TiesWith network path best (pruned bound leaf) = Unit {0}
TiesWith network path best (tied bound leaf chains) = IsSomeAnd best (λ solution. (solution.flowspan ≤ bound) × ShowsAfter network path chains solution.offsets)
TiesWith network path best (refuted leaf) = Unit {0}
