-- What a node is found to be at the end of a path, and where the walk goes on from it.
use Rattle.std.specs.Prelude.{◌≡◌, ◌≢◌, ℕ, ◌*◌, ◌≤◌, List, [], ◌∷◌, length, map, All, ℤ, pos, ◌+ℤ◌, ◌≤ℤ◌, Result, Ok, Err, Option, Some, None}
use Rattle.tsn_model.specs.declared.Decision.{Decision}
use Rattle.tsn_model.specs.declared.bounds.TheConstants.{MAX_OCCUPANCY, MAX_SPAN, MAX_WORK}
use Rattle.tsn_model.specs.Network.{Network}
use Rattle.tsn_model.specs.Schedule.{IsConflict}
use Rattle.tsn_model.specs.Certificate.{Entry, IsFrameOn, LeadsTo, AreEntries, sum_on, least, head_of, tail_of, work_of, Leaf, Proves, AreChains, Node, split_node, leaf_node, tie_node, IsNodeShown}
use Rattle.tsn_check.specs.Faults.{IsWrongEntry, IsFirstWrong, IsWrongPart, IsShort, IsWrongNode}
use Rattle.tsn_check.specs.declared.why.Shortfall.{Shortfall}
use Rattle.tsn_check.specs.declared.why.NodeFault.{NodeFault}
use Rattle.tsn_check.specs.declared.why.NodeFault.TheVariants.{ChainBroken}
use Rattle.tsn_check.specs.declared.load.LinkLoad.{LinkLoad}

-- the node at the end of a path is right, or this is wrong with it
abbrev pub Judges : Network → ℕ → Option (List ℕ) → List Decision → Node → Result Unit NodeFault → Type 0
Judges network target planned path node (Ok _) = IsNodeShown network target planned path node
Judges network target planned path node (Err fault) = IsWrongNode network target planned path node fault

-- the leaf proves the target; or its parts are right, and it doesn't; or what is wrong with them
abbrev pub FindsBound : Network → ℕ → List Decision → Leaf → Result (Option Shortfall) NodeFault → Type 0
FindsBound network target path proof (Ok None) = Proves network path target proof
FindsBound network target path proof (Ok (Some short)) = IsShort network path target proof short
FindsBound network target path proof (Err fault) = IsWrongPart network path proof fault

-- there is a chain to each of the first streams, or one isn't such a chain
abbrev pub FindsChains : Network → List Decision → List (List ℕ) → Result Unit NodeFault → Type 0
FindsChains network path chains (Ok _) = AreChains network path chains
FindsChains network path chains (Err fault) = (fault ≡ ChainBroken) × (AreChains network path chains → ⊥)

-- the sum of a chain of the path to a stream, which begins with a release
pub record IsSumTo (network : Network) (path : List Decision) (chain : List ℕ) (i : ℕ) (sum : ℤ) : Type 0 where
  pub leads : LeadsTo network path chain i
  pub adds : sum ≡ sum_on network path chain i
  pub low : pos 0 ≤ℤ (sum +ℤ pos 154880000000)
  pub high : sum ≤ℤ pos 155880000000

-- the sum is told, or that the chain isn't one to the stream
abbrev pub FindsSum : Network → List Decision → List ℕ → ℕ → Result ℤ NodeFault → Type 0
FindsSum network path chain i (Ok sum) = IsSumTo network path chain i sum
FindsSum network path chain i (Err fault) = (fault ≡ ChainBroken) × (LeadsTo network path chain i → ⊥)

-- ---- the entries of a leaf over a whole link

-- the entry's frame is on the link and another one than those before it, and its chain leads to its stream
pub record IsRightEntry (network : Network) (path : List Decision) (link : ℕ) (before : List Entry) (entry : Entry) : Type 0 where
  pub on_link : IsFrameOn network link entry.frame
  pub other_frame : All (λ other. other.frame ≢ entry.frame) before
  pub leads : LeadsTo network path entry.chain entry.frame.stream

-- what some entries come to on the link
pub record IsLoad (network : Network) (path : List Decision) (link : ℕ) (entries : List Entry) (found : LinkLoad) : Type 0 where
  pub head : found.head ≡ least (map (head_of network path link) entries)
  pub work : found.work ≡ work_of network link entries
  pub tail : found.tail ≡ least (map (tail_of network link) entries)
  pub low_head : pos 0 ≤ℤ (found.head +ℤ pos 200000000000)
  pub high_head : found.head ≤ℤ pos 200000000000
  pub short_work : found.work ≤ MAX_OCCUPANCY * length entries
  pub low_tail : pos 0 ≤ℤ (found.tail +ℤ pos 1240000000)
  pub high_tail : found.tail ≤ℤ pos MAX_SPAN

-- the entry is right, and what it comes to is told, or what is wrong with it
abbrev pub FindsEntry : Network → List Decision → ℕ → List Entry → Entry → Result LinkLoad NodeFault → Type 0
FindsEntry network path link before entry (Ok found) = IsRightEntry network path link before entry × IsLoad network path link (entry ∷ []) found
FindsEntry network path link before entry (Err fault) = IsWrongEntry network path link before entry fault

-- the entries are right, and what they come to is told, or what is wrong with the first that isn't
abbrev pub FindsLoad : Network → List Decision → ℕ → List Entry → Result LinkLoad NodeFault → Type 0
FindsLoad network path link entries (Ok found) = AreEntries network path link entries × IsLoad network path link entries found × (found.work ≤ MAX_WORK)
FindsLoad network path link entries (Err fault) = IsFirstWrong network path link entries fault

-- ---- branches

-- if the node is a branch, it is on a conflict
abbrev pub IsBranchOf : Network → Node → Type 0
IsBranchOf network (split_node triple) = IsConflict network triple
IsBranchOf network (leaf_node proof) = Unit {0}
IsBranchOf network (tie_node proof chains) = Unit {0}
