-- Branches are on conflicts.
use Rattle.std.proofs.Common.{ℕ, List, Option}
use Rattle.tsn_model.specs.declared.Decision.{Decision}
use Rattle.tsn_model.specs.Network.{Network}
use Rattle.tsn_model.specs.Certificate.{Node, split_node, leaf_node, tie_node, IsNodeShown}
use Rattle.tsn_check.specs.Steps.{IsBranchOf}

pub branch_of : (network : Network) (target : ℕ) (planned : Option (List ℕ)) (path : List Decision) (node : Node) → IsNodeShown network target planned path node → IsBranchOf network node
branch_of network target planned path (split_node triple) right = right
branch_of network target planned path (leaf_node proof) right = tt
branch_of network target planned path (tie_node proof chains) right = tt
