-- A way down to a node that is looked at with what is known of its parents.
--     IsSplitPointBy, IsSplitPoint     what a split node has by its least offsets
--     IsJudgement                        what is found at a node
--     Stands, Splits                   a descent to a node that is to be looked at, or that is to be split
use Rattle.std.specs.Prelude.{◌≡◌, ℕ, ◌+◌, ◌-◌, ◌<◌, List, All, length, take, slice_get, slice_index_or, Option, Some}
use Rattle.tsn_model.specs.declared.Triple.{Triple}
use Rattle.tsn_model.specs.declared.Decision.{Decision}
use Rattle.tsn_model.specs.Network.{Network}
use Rattle.tsn_model.specs.Schedule.{IsFirstOverlap, IsValid, flowspan}
use Rattle.tsn_model.specs.Arcs.{conflicts_of, arcs_of}
use Rattle.tsn_model.specs.Search.{Outcome, split, solved, pruned, tied, refuted, ShowsOffsets}
use Rattle.tsn_conflict.specs.Raised.{triple_at}
use Rattle.tsn_diff.specs.Stack.{Stack}
use Rattle.tsn_diff.specs.Offsets.{LeastOffsets}
use Rattle.tsn_diff.specs.Answers.{Solves}
use Rattle.tsn_timing.specs.Solution.{Solution}
use Rattle.tsn_conflict.specs.Outcome.{outcome_of}
use Rattle.tsn_branch.specs.Look.{AreLeast, IsLook, ShowsFlowspan}
use Rattle.tsn_branch.specs.Links.{shared_links, IsUnloaded}
use Rattle.tsn_branch.specs.Ends.{Ended, AreRaised}
use Rattle.tsn_branch.specs.Releases.{releases_of}
use Rattle.tsn_conflict.specs.declared.outcome.Look.{Look}
use Rattle.tsn_branch.specs.declared.judgement.SplitPoint.{SplitPoint}
use Rattle.tsn_branch.specs.declared.judgement.Judgement.{Judgement}
use Rattle.tsn_branch.specs.declared.judgement.Judgement.TheVariants.{Split, Closed}

-- the way down: the path, the arcs put in, and what the nodes that were split had
pub record Position : Type 0 where
  pub path : List Decision
  pub stack : Stack
  pub splits : List SplitPoint
  pub found : Option SplitPoint

-- by these offsets all streams are done in time, the last at that instant, and the triple of that number is the first overlap
pub record IsSplitPointBy (network : Network) (offsets : List ℕ) (point : SplitPoint) : Type 0 where
  pub ended : Ended network offsets point.last point.end
  pub overlap : IsFirstOverlap network offsets (triple_at (conflicts_of network) point.triple)

-- the same by the least offsets of the path
pub record IsSplitPoint (network : Network) (path : List Decision) (point : SplitPoint) : Type 0 where
  pub within : point.triple < length (conflicts_of network)
  pub by_least : (offsets : List ℕ) → AreLeast network path offsets → IsSplitPointBy network offsets point

-- the same by some list from which these offsets were raised
pub record WasSplitPoint (network : Network) (raised offsets : List ℕ) (point : SplitPoint) : Type 0 where
  pub within : point.triple < length (conflicts_of network)
  pub before : List ℕ
  pub rose : AreRaised raised before offsets
  pub was_split_point : IsSplitPointBy network before point

-- the outcome ends its path
abbrev pub Closes : Outcome → Type 0
Closes (split triple) = ⊥
Closes (solved offsets bound leaf chains) = Unit {0}
Closes (pruned bound leaf) = Unit {0}
Closes (tied bound leaf chains) = Unit {0}
Closes (refuted leaf) = Unit {0}

-- the judgement is the look's, with what a split node had
abbrev pub IsJudgement : Network → List Decision → ℕ → Option Solution → Judgement → Type 0
IsJudgement network path target best (Split point) = IsSplitPoint network path point × IsLook network path target best (split (triple_at (conflicts_of network) point.triple))
IsJudgement network path target best (Closed look) = Closes (outcome_of look) × IsLook network path target best (outcome_of look)

-- the least offsets of the path are a valid schedule of this flowspan
abbrev pub IsSolution : Network → List Decision → ℕ → Outcome → Type 0
IsSolution network path end (split triple) = ⊥
IsSolution network path end (solved offsets bound leaf chains) =
    AreLeast network path offsets × IsValid network offsets × (bound ≡ end) × (bound ≡ flowspan network offsets) × ShowsFlowspan network path offsets leaf
    × ShowsOffsets network path chains offsets
IsSolution network path end (pruned bound leaf) = ⊥
IsSolution network path end (tied bound leaf chains) = ⊥
IsSolution network path end (refuted leaf) = ⊥

-- the look is a tie with the best schedule, on each path of which these are the least offsets, where that node isn't pruned at its target
abbrev pub IsTieBy : Network → LeastOffsets → Option Solution → Look → Type 0
IsTieBy network lowest best look =
    Closes (outcome_of look)
    × ((path : List Decision) (target : ℕ) → Solves (releases_of network) (arcs_of network path) lowest → flowspan network lowest.offsets < target
    → All (IsUnloaded network lowest.offsets target) (shared_links network) → IsLook network path target best (outcome_of look))

-- the nodes above the end of the path, from that depth on, were split so
pub record AreSplitPoints (network : Network) (path : List Decision) (splits : List SplitPoint) : Type 0 where
  pub base : ℕ
  pub count : base + length splits ≡ length path
  pub each : (k : ℕ) (d : SplitPoint) → k < length splits → IsSplitPoint network (take (base + k) path) (slice_index_or splits k d)

-- the arcs are those of the decisions above the last one
pub record Stands (network : Network) (position : Position) : Type 0 where
  pub releases : position.stack.least.releases ≡ releases_of network
  pub arcs : position.stack.least.arcs ≡ arcs_of network (take (length position.path - 1) position.path)
  pub split_above : AreSplitPoints network position.path position.splits

-- the arcs are those of the path, whose end is to be split on the triple
pub record Splits (network : Network) (triple : Triple) (position : Position) : Type 0 where
  pub releases : position.stack.least.releases ≡ releases_of network
  pub arcs : position.stack.least.arcs ≡ arcs_of network position.path
  pub split_above : AreSplitPoints network position.path position.splits
  pub point : SplitPoint
  pub found : position.found ≡ Some point
  pub is_split_point : IsSplitPoint network position.path point

-- the arcs are those of the path, and its least offsets are raised from those of the node above
pub record Leads (network : Network) (position : Position) : Type 0 where
  pub releases : position.stack.least.releases ≡ releases_of network
  pub arcs : position.stack.least.arcs ≡ arcs_of network position.path
  pub split_above : AreSplitPoints network position.path position.splits
  pub raised : (point : SplitPoint) → slice_get position.splits (length position.splits - 1) ≡ Some point → WasSplitPoint network position.stack.raised position.stack.least.offsets point

-- after a look: to be split, or as before
abbrev pub IsAfter : Network → Outcome → Position → Type 0
IsAfter network (split triple) position = Splits network triple position
IsAfter network (solved offsets bound leaf chains) position = Stands network position
IsAfter network (pruned bound leaf) position = Stands network position
IsAfter network (tied bound leaf chains) position = Stands network position
IsAfter network (refuted leaf) position = Stands network position
