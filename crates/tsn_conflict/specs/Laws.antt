-- What a parent's first overlap says of the offsets that rose since.
use Rattle.std.specs.Prelude.{◌≡◌, ℕ, ◌<◌, List, Contains, length}
use Rattle.tsn_model.specs.Network.{Network}
use Rattle.tsn_model.specs.Schedule.{IsFirstOverlap, offset_of}
use Rattle.tsn_conflict.specs.Kept.{Kept, AreConflictsOf}
use Rattle.tsn_conflict.specs.Raised.{triple_at, OnlyRaisedOverlap}

-- where the triple of a number is the first overlap by the parent's offsets, and the offsets differ from the parent's for
-- raised streams alone, only triples with a raised stream overlap before it
abbrev pub ParentsOverlapStarts : Type 0
ParentsOverlapStarts = (network : Network) (kept : Kept) (parent offsets raised : List ℕ) (start : ℕ) → AreConflictsOf network kept → start < length kept.triples
    → IsFirstOverlap network parent (triple_at kept.triples start) → ((stream : ℕ) → (Contains raised stream → ⊥) → offset_of offsets stream ≡ offset_of parent stream)
    → OnlyRaisedOverlap kept offsets raised start
