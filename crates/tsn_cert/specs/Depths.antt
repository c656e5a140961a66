-- The depths of a chain, however they are kept.
use Rattle.std.specs.Prelude.{ℕ, List}
use Rattle.tsn_cert.specs.declared.chain.Depths.{Depths}
use Rattle.tsn_cert.specs.declared.chain.Depths.TheVariants.{Narrow, Wide}

abbrev pub depths_in : Depths → List ℕ
depths_in (Narrow list) = list.items
depths_in (Wide list) = list.items
