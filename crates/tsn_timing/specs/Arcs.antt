-- How much an arc may ask.
use Rattle.std.specs.Prelude.{pos, ◌+ℤ◌, ◌≤ℤ◌}
use Rattle.tsn_model.specs.declared.Arc.{Arc}

-- an arc's weight is far within what a sum of 128 of them may be
pub record IsSmall (arc : Arc) : Type 0 where
  pub low : pos 0 ≤ℤ (arc.weight +ℤ pos 1210000000)
  pub high : arc.weight ≤ℤ pos 1210000000
