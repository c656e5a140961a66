-- The first reason why a tree shows nothing of a plan, with the numbers that show it.
--     IsWrongSchedule, IsWrongPlan, IsWrongClaim       what is wrong with a plan
--     IsWrongEntry, IsFirstWrong                       what is wrong with an entry of a leaf, and the first that is wrong
--     IsWrongPart, shortfall, IsShort                  what is wrong with a leaf's chains or entries, and by what it misses its target
--     IsNoTie, IsWrongNode                             what is wrong with a tie, and with a node at the end of a path
--     IsWrongTree, IsWhy                               the first fault of a list of nodes, and of a plan and a tree
--     IsPlanFault, IsClaimFault, IsFirstFault          the same without the numbers
use Rattle.std.specs.Prelude.{◌≡◌, ◌≢◌, ◌⊎◌, ℕ, ◌<◌, ◌≤◌, List, [], ◌∷◌, length, take, slice_get, Option, Some, None, All, Any, pos, ◌+ℤ◌}
use Rattle.tsn_model.specs.declared.Decision.{Decision}
use Rattle.tsn_model.specs.declared.Violation.{Violation}
use Rattle.tsn_model.specs.Network.{Network, stream_count, period_of, latest_of}
use Rattle.tsn_model.specs.Timing.{Sends, UsesLink, arrival, span}
use Rattle.tsn_model.specs.Schedule.{IsValid, IsFirstViolation, flowspan, target_of, IsConflict}
use Rattle.tsn_model.specs.Arcs.{arcs_of, IsClosedChain, chain_sum}
use Rattle.tsn_model.specs.Certificate.{Leaf, late, overrun, positive_cycle, load, overload, Entry, IsFrameOn, LeadsTo, AreEntries, sum_on, late_bound, load_bound, busy_until, Proves, AreChains, ShowsAfter, Node, split_node, leaf_node, tie_node, IsNodeShown}
use Rattle.tsn_model.specs.Places.{AreRight, places_after}
use Rattle.tsn_cert.specs.declared.plan.Plan.{Plan}
use Rattle.tsn_cert.specs.declared.plan.Plan.TheVariants as plan
use Rattle.tsn_cert.specs.declared.cert.Cert.{Cert}
use Rattle.tsn_check.specs.Plans.{IsPlanRight, offsets_in}
use Rattle.tsn_check.specs.Certified.{leaf_target, tie_plan}
use Rattle.tsn_check.specs.Numbers.{plan_code, code_of}
use Rattle.tsn_check.specs.declared.fault.CheckFault.{CheckFault}
use Rattle.tsn_check.specs.declared.why.PlanFault.{PlanFault}
use Rattle.tsn_check.specs.declared.why.PlanFault.TheVariants as of_plan
use Rattle.tsn_check.specs.declared.why.Shortfall.{Shortfall}
use Rattle.tsn_check.specs.declared.why.Shortfall.TheVariants as short_of
use Rattle.tsn_check.specs.declared.why.NodeFault.{NodeFault}
use Rattle.tsn_check.specs.declared.why.NodeFault.TheVariants as of_node
use Rattle.tsn_check.specs.declared.why.TreeFault.{TreeFault}
use Rattle.tsn_check.specs.declared.why.TreeFault.TheVariants as why

-- ---- plans

-- the first fault of a schedule: its offsets aren't valid, or its flowspan isn't theirs
abbrev pub IsWrongSchedule : Network → ℕ → List ℕ → PlanFault → Type 0
IsWrongSchedule network stated offsets fault =
    ((violation : Violation) × IsFirstViolation network offsets violation × (fault ≡ of_plan.Invalid violation))
    ⊎ (IsValid network offsets × (stated ≢ flowspan network offsets) × (fault ≡ of_plan.Flowspan stated (flowspan network offsets)))

-- the first fault of a plan that is to be a schedule
abbrev pub IsWrongPlan : Network → Plan → PlanFault → Type 0
IsWrongPlan network (plan.Schedule span offsets) fault = IsWrongSchedule network span offsets fault
IsWrongPlan network plan.None fault = fault ≡ of_plan.NoSchedule

-- the first fault of a plan that has a certificate, and so may be that there is none
abbrev pub IsWrongClaim : Network → Plan → PlanFault → Type 0
IsWrongClaim network (plan.Schedule span offsets) fault = IsWrongSchedule network span offsets fault
IsWrongClaim network plan.None fault = ⊥

-- ---- the entries of a leaf over a whole link

-- What is wrong with an entry behind others: its stream doesn't send its frame; it isn't there, or doesn't use the link; its frame is on the
-- link, and is that of an entry before it; its frame is on the link and another than those before it, and its chain doesn't lead to its stream.
abbrev pub IsWrongEntry : Network → List Decision → ℕ → List Entry → Entry → NodeFault → Type 0
IsWrongEntry network path link before entry of_node.NotSent =
    (entry.frame.stream < stream_count network) × (Sends network entry.frame.stream entry.frame.shift → ⊥)
IsWrongEntry network path link before entry of_node.NotOnLink =
    (stream_count network ≤ entry.frame.stream)
    ⊎ (Sends network entry.frame.stream entry.frame.shift × (UsesLink network entry.frame.stream link → ⊥))
IsWrongEntry network path link before entry of_node.StreamRepeated =
    IsFrameOn network link entry.frame × Any (λ other. other.frame ≡ entry.frame) before
IsWrongEntry network path link before entry of_node.ChainBroken =
    IsFrameOn network link entry.frame × All (λ other. other.frame ≢ entry.frame) before × (LeadsTo network path entry.chain entry.frame.stream → ⊥)
IsWrongEntry network path link before entry _ = ⊥

-- The entries before place k are right, and the one there is wrong, which may depend on those before it.
pub record IsFirstWrong (network : Network) (path : List Decision) (link : ℕ) (entries : List Entry) (fault : NodeFault) : Type 0 where
  pub k : ℕ
  pub entry : Entry
  pub right_before : AreEntries network path link (take k entries)
  pub there : slice_get entries k ≡ Some entry
  pub wrong : IsWrongEntry network path link (take k entries) entry fault

-- ---- leaves

-- the leaf's chains are chains of the path, and end where they are to
abbrev pub HasChains : Network → List Decision → Leaf → Type 0
HasChains network path (late i chain) = LeadsTo network path chain i
HasChains network path (overrun i chain) = LeadsTo network path chain i
HasChains network path (positive_cycle chain) = IsClosedChain (arcs_of network path) chain
HasChains network path (load link entries) = AreEntries network path link entries
HasChains network path (overload link entries) = AreEntries network path link entries

-- what is wrong with the leaf's chain, or with the first of its entries that isn't right
abbrev pub IsWrongPart : Network → List Decision → Leaf → NodeFault → Type 0
IsWrongPart network path (late i chain) fault = (fault ≡ of_node.ChainBroken) × (LeadsTo network path chain i → ⊥)
IsWrongPart network path (overrun i chain) fault = (fault ≡ of_node.ChainBroken) × (LeadsTo network path chain i → ⊥)
IsWrongPart network path (positive_cycle chain) fault = (fault ≡ of_node.ChainBroken) × (IsClosedChain (arcs_of network path) chain → ⊥)
IsWrongPart network path (load link entries) fault = IsFirstWrong network path link entries fault
IsWrongPart network path (overload link entries) fault = IsFirstWrong network path link entries fault

-- what the leaf comes to, and what that isn't enough for
abbrev pub shortfall : Network → List Decision → ℕ → Leaf → Shortfall
shortfall network path target (late i chain) = short_of.Bound (late_bound network path i chain) target
shortfall network path target (overrun i chain) =
    short_of.Overrun i (sum_on network path chain i +ℤ pos (span network i)) (period_of network i) network.cycle
    (sum_on network path chain i +ℤ pos (arrival network i)) (latest_of network i)
shortfall network path target (positive_cycle chain) = short_of.Cycle (chain_sum (arcs_of network path) chain)
shortfall network path target (load link entries) = short_of.Bound (load_bound network path link entries) target
shortfall network path target (overload link entries) = short_of.Overload link (busy_until network path link entries) network.cycle

-- the leaf's chains are right, and it doesn't prove the target
abbrev pub IsShort : Network → List Decision → ℕ → Leaf → Shortfall → Type 0
IsShort network path target proof short = HasChains network path proof × (Proves network path target proof → ⊥) × (short ≡ shortfall network path target proof)

-- ---- nodes

-- a leaf and chains that are right are no tie with the plan: it is that there is no schedule; or its flowspan isn't proved; or it is, and the chains
-- don't show that nothing on the path comes before it
abbrev pub IsNoTie : Network → Option (List ℕ) → List Decision → Leaf → List (List ℕ) → NodeFault → Type 0
IsNoTie network None path proof chains fault = HasChains network path proof × (fault ≡ of_node.TieOfNone)
IsNoTie network (Some offsets) path proof chains fault =
    ((short : Shortfall) × IsShort network path (flowspan network offsets) proof short × (fault ≡ of_node.TieTooLow short))
    ⊎ (Proves network path (flowspan network offsets) proof × (ShowsAfter network path chains offsets → ⊥) × (fault ≡ of_node.TieSooner))

-- What is wrong with a node: a branch on something other than two streams, a link of both and a lag of theirs; a leaf whose chains aren't right, or which
-- doesn't prove the target; a tie whose leaf's chains aren't right, or whose own aren't, or which isn't one with the plan.
abbrev pub IsWrongNode : Network → ℕ → Option (List ℕ) → List Decision → Node → NodeFault → Type 0
IsWrongNode network target planned path (split_node triple) fault = (fault ≡ of_node.NotConflict) × (IsConflict network triple → ⊥)
IsWrongNode network target planned path (leaf_node proof) fault =
    IsWrongPart network path proof fault
    ⊎ ((short : Shortfall) × IsShort network path target proof short × (fault ≡ of_node.TooLow short))
IsWrongNode network target planned path (tie_node proof chains) fault =
    IsWrongPart network path proof fault
    ⊎ (HasChains network path proof × (AreChains network path chains → ⊥) × (fault ≡ of_node.ChainBroken))
    ⊎ (AreChains network path chains × IsNoTie network planned path proof chains fault)

-- The nodes before node k are right, and it stands at the end of the path, the first place that is open there.
pub record Stands (network : Network) (target : ℕ) (planned : Option (List ℕ)) (nodes : List Node) (k : ℕ) (path : List Decision) (node : Node) : Type 0 where
  pub right_before : AreRight (IsNodeShown network target planned) ([] ∷ []) (take k nodes)
  pub waiting : List (List Decision)
  pub first_place : places_after (take k nodes) ≡ path ∷ waiting
  pub there : slice_get nodes k ≡ Some node

-- The first fault of a list of nodes: they end and a place is open; a node stands after the tree's end; a node isn't right where it stands.
abbrev pub IsWrongTree : Network → ℕ → Option (List ℕ) → List Node → TreeFault → Type 0
IsWrongTree network target planned nodes (why.Unfinished k) =
    (k ≡ length nodes) × AreRight (IsNodeShown network target planned) ([] ∷ []) nodes × (places_after nodes ≢ [])
IsWrongTree network target planned nodes (why.TooLong k) =
    (k < length nodes) × AreRight (IsNodeShown network target planned) ([] ∷ []) (take k nodes) × (places_after (take k nodes) ≡ [])
IsWrongTree network target planned nodes (why.Node k fault) =
    (path : List Decision) × (node : Node) × Stands network target planned nodes k path node × IsWrongNode network target planned path node fault
IsWrongTree network target planned nodes _ = ⊥

-- the target isn't the one that the plan asks for
abbrev pub IsWrongTarget : Network → Plan → Cert → TreeFault → Type 0
IsWrongTarget network plan cert fault =
    (cert.target ≢ target_of network (offsets_in plan)) × (fault ≡ why.Target cert.target (target_of network (offsets_in plan)))

-- the first fault of a plan and its tree: of the plan, then of the target, then of the nodes in order
abbrev pub IsWhy : Network → Plan → Cert → TreeFault → Type 0
IsWhy network plan cert fault =
    ((wrong : PlanFault) × IsWrongClaim network plan wrong × (fault ≡ why.Plan wrong))
    ⊎ (IsPlanRight network plan × IsWrongTarget network plan cert fault)
    ⊎ (IsPlanRight network plan × (cert.target ≡ target_of network (offsets_in plan))
    × IsWrongTree network (leaf_target network cert.format cert.target) (tie_plan cert.format (offsets_in plan)) cert.nodes fault)

-- ---- without the numbers

abbrev pub IsPlanFault : Network → Plan → CheckFault → Type 0
IsPlanFault network plan fault = (wrong : PlanFault) × IsWrongPlan network plan wrong × (fault ≡ plan_code wrong)

abbrev pub IsClaimFault : Network → Plan → CheckFault → Type 0
IsClaimFault network plan fault = (wrong : PlanFault) × IsWrongClaim network plan wrong × (fault ≡ plan_code wrong)

abbrev pub IsFirstFault : Network → Plan → Cert → CheckFault → Type 0
IsFirstFault network plan cert fault = (reason : TreeFault) × IsWhy network plan cert reason × (fault ≡ code_of reason)
