-- Offsets under releases and arcs: the least ones with chains that show them, and closed chains that show that there are none.
use Rattle.std.specs.Prelude.{◌≡◌, ℕ, ◌<◌, ◌≤◌, pos, ◌+ℤ◌, ◌<ℤ◌, List, [], length, slice_index, slice_index_or}
use Rattle.tsn_model.specs.declared.Arc.{Arc}
use Rattle.tsn_model.specs.Schedule.{offset_of}
use Rattle.tsn_model.specs.Arcs.{HoldsAll, start_of, chain_sum, IsChainTo, IsClosedChain}

-- the least offset that a stream may have before any arc is taken into account
abbrev pub release_of : List ℕ → ℕ → ℕ
release_of releases stream = slice_index releases stream

-- an offset for each stream, none below the stream's release, that meet every arc
pub record Meets (releases : List ℕ) (arcs : List Arc) (offsets : List ℕ) : Type 0 where
  pub count : length offsets ≡ length releases
  pub released : (stream : ℕ) → stream < length releases → release_of releases stream ≤ offset_of offsets stream
  pub met : HoldsAll offsets arcs

-- offsets that meet every arc, each at most that of any other such list
pub record IsLeast (releases : List ℕ) (arcs : List Arc) (offsets : List ℕ) : Type 0 where
  pub meets : Meets releases arcs offsets
  pub least : (other : List ℕ) → Meets releases arcs other →
      (stream : ℕ) → stream < length releases → offset_of offsets stream ≤ offset_of other stream

-- the chain leads to the stream, and its sum, which begins with the release of its first stream, is the offset
pub record Shows (releases : List ℕ) (arcs : List Arc) (chain : List ℕ) (stream offset : ℕ) : Type 0 where
  pub leads : IsChainTo arcs chain stream
  pub sum : pos offset ≡ pos (release_of releases (start_of arcs chain stream)) +ℤ chain_sum arcs chain
  pub short : length chain < length releases
  pub empty : offset ≡ release_of releases stream → chain ≡ []

-- offsets that were found for these releases and arcs, and a chain for each stream
pub record LeastOffsets : Type 0 where
  pub releases : List ℕ
  pub arcs : List Arc
  pub offsets : List ℕ
  pub chains : List (List ℕ)

-- the chain of a stream
abbrev pub chain_of : LeastOffsets → ℕ → List ℕ
chain_of least stream = slice_index_or least.chains stream []

-- a closed chain of 1 to n arcs, whose sum is above 0
pub record IsPositiveCycle (n : ℕ) (arcs : List Arc) (chain : List ℕ) : Type 0 where
  pub closed : IsClosedChain arcs chain
  pub short : length chain ≤ n
  pub positive : pos 0 <ℤ chain_sum arcs chain
