use Rattle.std.specs.Prelude.{ℕ, ◌<◌, ◌≤ℤ◌}
use Rattle.std.proofs.Common.{neg_ℤ}
use Rattle.tsn_model.specs.declared.Arc.{Arc}
use Rattle.tsn_diff.specs.declared.solve.TheConstants.{MAX_WEIGHT}

-- an arc between two of the first n streams, of a weight within the limit
pub record IsArcAmong (n : ℕ) (arc : Arc) : Type 0 where
  pub from_below : arc.from < n
  pub to_below : arc.to < n
  pub weight_from : neg_ℤ MAX_WEIGHT ≤ℤ arc.weight
  pub weight_to : arc.weight ≤ℤ MAX_WEIGHT
