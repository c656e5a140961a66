-- The order of a certificate's nodes, by their paths, and the node of a settlement.
--     Precedes        a path comes before another in preorder
--     node_of         what stands for a settlement in a certificate of format 2
use Rattle.std.specs.Prelude.{◌≡◌, ◌≢◌, ◌⊎◌, ℕ, ◌+◌, List, [], ◌++◌, take, if◌then◌else◌, ◌==◌, Option, Some, None}
use Rattle.tsn_model.specs.declared.Decision.{Decision}
use Rattle.tsn_model.specs.Network.{Network}
use Rattle.tsn_model.specs.Schedule.{common, target_of}
use Rattle.tsn_model.specs.Certificate.{Node, split_node, leaf_node, tie_node}
use Rattle.tsn_model.specs.Search.{Outcome, split, solved, pruned, tied, refuted, PathBefore}

-- the first path is a beginning of the second, or turns left where the second turns right
abbrev pub Precedes : List Decision → List Decision → Type 0
Precedes first second = ((rest : List Decision) × (rest ≢ []) × (second ≡ first ++ rest)) ⊎ PathBefore first second

-- the chains of a solved leaf, up to the first stream whose offset isn't the plan's
unfoldable pub chains_until : Option (List ℕ) → List ℕ → List (List ℕ) → List (List ℕ)
chains_until (Some plan) offsets chains = take (common offsets plan + 1) chains
chains_until None offsets chains = chains

-- the node of an outcome in a certificate of that plan: a split is a branch; a solved or tied leaf whose bound is the plan's flowspan is a tie; the others are their leaves
unfoldable pub node_of : Network → Option (List ℕ) → Outcome → Node
node_of network plan (split triple) = split_node triple
node_of network plan (solved offsets bound leaf chains) = if bound == target_of network plan then tie_node leaf (chains_until plan offsets chains) else leaf_node leaf
node_of network plan (pruned bound leaf) = leaf_node leaf
node_of network plan (tied bound leaf chains) = if bound == target_of network plan then tie_node leaf chains else leaf_node leaf
node_of network plan (refuted leaf) = leaf_node leaf
