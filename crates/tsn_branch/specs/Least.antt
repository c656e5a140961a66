-- Least offsets that are at hand where a node is looked at.
--     IsLeastOf, IsLeastAbove     by the arcs of a path, or by those of all its decisions but the last
--     ComesWithSplit              what a look gives for the children of its node
use Rattle.std.specs.Prelude.{◌≡◌, ◌-◌, List, length, take, Option, None, IsSomeAnd}
use Rattle.tsn_model.specs.declared.Decision.{Decision}
use Rattle.tsn_model.specs.Network.{Network}
use Rattle.tsn_model.specs.Arcs.{arcs_of}
use Rattle.tsn_model.specs.Search.{Outcome, split, solved, pruned, tied, refuted}
use Rattle.tsn_diff.specs.Offsets.{LeastOffsets}
use Rattle.tsn_diff.specs.Answers.{Solves}
use Rattle.tsn_branch.specs.Releases.{releases_of}

-- the least offsets that hold the arcs of the path, with chains that show them
abbrev pub IsLeastOf : Network → List Decision → LeastOffsets → Type 0
IsLeastOf network path lowest = Solves (releases_of network) (arcs_of network path) lowest

-- the same of the path without its last decision
abbrev pub IsLeastAbove : Network → List Decision → LeastOffsets → Type 0
IsLeastAbove network path lowest = IsLeastOf network (take (length path - 1) path) lowest

-- a split comes with the least offsets of its node, and nothing else does
abbrev pub ComesWithSplit : Network → List Decision → Outcome → Option LeastOffsets → Type 0
ComesWithSplit network path (split triple) least = IsSomeAnd least (IsLeastOf network path)
ComesWithSplit network path (solved offsets bound leaf chains) least = least ≡ None
ComesWithSplit network path (pruned bound leaf) least = least ≡ None
ComesWithSplit network path (tied bound leaf chains) least = least ≡ None
ComesWithSplit network path (refuted leaf) least = least ≡ None
