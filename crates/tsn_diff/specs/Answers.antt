use Rattle.std.specs.Prelude.{◌≡◌, ℕ, ◌<◌, ℤ, List, length, slice_index, All}
use Rattle.tsn_model.specs.declared.Arc.{Arc}
use Rattle.tsn_diff.specs.declared.solve.Feasibility.{Feasibility}
use Rattle.tsn_diff.specs.declared.solve.Feasibility.TheVariants.{Least, Positive}
use Rattle.tsn_model.specs.Arcs.{IsMet}
use Rattle.tsn_diff.specs.Offsets.{IsLeast, Shows, LeastOffsets, chain_of, IsPositiveCycle}

-- the least offsets under these releases that meet these arcs, with a chain for each stream that shows its offset
pub record Solves (releases : List ℕ) (arcs : List Arc) (found : LeastOffsets) : Type 0 where
  pub releases_are : found.releases ≡ releases
  pub arcs_are : found.arcs ≡ arcs
  pub least : IsLeast releases arcs found.offsets
  pub count : length found.chains ≡ length releases
  pub chains : (stream : ℕ) → stream < length releases → Shows releases arcs (chain_of found stream) stream (slice_index found.offsets stream)

-- a closed chain of positive sum, for which no offsets at all meet every arc
pub record Refutes (n : ℕ) (arcs : List Arc) (chain : List ℕ) : Type 0 where
  pub cycle : IsPositiveCycle n arcs chain
  pub none : (offset : ℕ → ℤ) → ¬ All (IsMet offset) arcs

-- what an outcome says of a list of arcs
abbrev pub Answers : List ℕ → List Arc → Feasibility → Type 0
Answers releases arcs (Least least) = Solves releases arcs least
Answers releases arcs (Positive chain) = Refutes (length releases) arcs chain.items
