-- A node of a certificate as the definitions have it.
use Rattle.tsn_model.specs.Certificate as tree
use Rattle.tsn_model.specs.Certificate.{split_node, leaf_node, tie_node}
use Rattle.tsn_cert.specs.declared.cert.Node.{Node}
use Rattle.tsn_cert.specs.declared.cert.Node.TheVariants.{Branch, Leaf, Tie}
use Rattle.tsn_cert.specs.Leaf.{bound_leaf, leaf_of}

-- the node of a tree that a node of the code is
abbrev pub tree_node : Node → tree.Node
tree_node (Branch triple) = split_node triple
tree_node (Leaf leaf) = leaf_node (leaf_of leaf)
tree_node (Tie bound chains) = tie_node (bound_leaf bound) chains
