-- Paths of decisions.
use Rattle.std.specs.Prelude.{◌≡◌, ◌≢◌, ℕ, List, Some, All, AllPairs, Contains, slice_get, take}
use Rattle.tsn_model.specs.declared.Triple.{Triple}
use Rattle.tsn_model.specs.declared.Side.{Side}
use Rattle.tsn_model.specs.declared.Side.TheVariants.{Left, Right}
use Rattle.tsn_model.specs.declared.Decision.{Decision}
use Rattle.tsn_model.specs.Certificate.{decided}

-- no triple is decided twice
abbrev pub DecidesOnce : List Decision → Type 0
DecidesOnce path = AllPairs (λ a b. a.triple ≢ b.triple) path

-- the path decides something else than the triple
abbrev pub IsUndecided : List Decision → Triple → Type 0
IsUndecided path triple = All (λ decision. decision.triple ≢ triple) path

-- each triple that the path decides is one of these
abbrev pub Fits : List Triple → List Decision → Type 0
Fits triples path = All (λ decision. Contains triples decision.triple) path

-- the last decision of the path is to this side
abbrev pub IsLastSide : List Decision → Side → Type 0
IsLastSide path side = (front : List Decision) × (triple : Triple) × (path ≡ decided front triple side)

-- the decision at that depth is to the left on the triple
abbrev pub TurnsLeftAt : List Decision → ℕ → Triple → Type 0
TurnsLeftAt path depth triple = slice_get path depth ≡ Some (record { triple = triple; side = Left })

-- the other path has the same decisions before that depth, and turns right there where the path turns left
abbrev pub IsOtherSide : List Decision → ℕ → List Decision → Type 0
IsOtherSide path depth other = (triple : Triple) × TurnsLeftAt path depth triple × (other ≡ decided (take depth path) triple Right)
