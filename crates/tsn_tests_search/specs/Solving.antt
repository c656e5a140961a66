-- What these tests ask of their steps.
use Rattle.std.specs.Prelude.{pos}
use Rattle.tsn_model.specs.declared.Triple.{Triple}
use Rattle.tsn_model.specs.Search.{Outcome, split, solved, pruned, tied, refuted}

-- the outcome is tied
abbrev pub IsTied : Outcome → Type 0
IsTied (split triple) = ⊥
IsTied (solved offsets bound leaf chains) = ⊥
IsTied (pruned bound leaf) = ⊥
IsTied (tied bound leaf chains) = Unit {0}
IsTied (refuted leaf) = ⊥

-- the conflict of the two streams
abbrev pub the_conflict : Triple
the_conflict = record { left = 0; right = 1; link = 4; lag = pos 0 }
