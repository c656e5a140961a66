-- What each lower bound of the code is.
use Rattle.tsn_model.specs.Certificate.{HasBound}
use Rattle.tsn_cert.specs.declared.leaf.LowerBound.{LowerBound}
use Rattle.tsn_cert.specs.declared.leaf.LowerBound.TheVariants.{Late, Load}
use Rattle.tsn_cert.specs.Leaf.{bound_leaf}

-- its leaf has a bound
pub has_bound : (bound : LowerBound) → HasBound (bound_leaf bound)
has_bound (Late stream chain) = tt
has_bound (Load link entries) = tt
