-- What a search that raised some offsets knows of the triples.
--     triple_at            the triple of a number
--     OnlyRaisedOverlap    before a number, only triples with a raised stream may overlap
use Rattle.std.specs.Prelude.{ℕ, ◌<◌, pos, List, Contains, slice_index_or}
use Rattle.tsn_model.specs.declared.Triple.{Triple}
use Rattle.tsn_model.specs.Network.{Network}
use Rattle.tsn_model.specs.Schedule.{Overlaps}
use Rattle.tsn_conflict.specs.Kept.{Kept, AreConflictsOf}

-- the triple of a number
abbrev pub triple_at : List Triple → ℕ → Triple
triple_at triples number = slice_index_or triples number (record { left = 0; right = 0; link = 0; lag = pos 0 })

-- neither stream of the triple is among the raised ones
pub record HasNoneRaised (raised : List ℕ) (triple : Triple) : Type 0 where
  pub left : Contains raised triple.left → ⊥
  pub right : Contains raised triple.right → ⊥

-- a triple of a lesser number overlaps only where one of its streams is raised
abbrev pub OnlyRaisedOverlap : Kept → List ℕ → List ℕ → ℕ → Type 0
OnlyRaisedOverlap kept offsets raised end = (network : Network) → AreConflictsOf network kept → (number : ℕ) → number < end
    → HasNoneRaised raised (triple_at kept.triples number) → Overlaps network offsets (triple_at kept.triples number) → ⊥
