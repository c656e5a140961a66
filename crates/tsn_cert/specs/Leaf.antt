-- A leaf of a certificate as the definitions have it.
use Rattle.tsn_model.specs.Certificate as tree
use Rattle.tsn_model.specs.Certificate.{late, overrun, positive_cycle, load, overload}
use Rattle.tsn_cert.specs.declared.leaf.LowerBound.{LowerBound}
use Rattle.tsn_cert.specs.declared.leaf.LowerBound.TheVariants.{Late, Load}
use Rattle.tsn_cert.specs.declared.leaf.Leaf.{Leaf}
use Rattle.tsn_cert.specs.declared.leaf.Leaf.TheVariants.{Bound, Overrun, Cycle, Overload}

-- the leaf that a lower bound of the code is
abbrev pub bound_leaf : LowerBound → tree.Leaf
bound_leaf (Late stream chain) = late stream chain
bound_leaf (Load link entries) = load link entries

-- the leaf that a leaf of the code is
abbrev pub leaf_of : Leaf → tree.Leaf
leaf_of (Bound bound) = bound_leaf bound
leaf_of (Overrun stream chain) = overrun stream chain
leaf_of (Cycle chain) = positive_cycle chain
leaf_of (Overload link entries) = overload link entries
