use Rattle.std.specs.Prelude.{◌≡◌, ℕ, ◌<◌, List, [], ◌∷◌, map, slice_index, slice_set, All}
use Rattle.tsn_diff.specs.declared.trail.Former.{Former}
use Rattle.tsn_diff.specs.declared.trail.Trail.{Trail}
use Rattle.tsn_diff.specs.Forest.{Labelling}
use Rattle.tsn_diff.specs.Steps.{last_of}

-- the label that a stream has
abbrev pub former_of : Labelling → ℕ → Former
former_of labels stream = record { stream = stream; offset = slice_index labels.offsets stream; last = last_of labels.last stream }

-- a stream's former label is put back
abbrev pub put_back : Former → Labelling → Labelling
put_back former labels = record { offsets = slice_set labels.offsets former.stream former.offset; last = slice_set labels.last former.stream former.last }

-- former labels are put back, the last one first
abbrev pub put_back_all : List Former → Labelling → Labelling
put_back_all [] labels = labels
put_back_all (former ∷ formers) labels = put_back former (put_back_all formers labels)

-- the streams of the former labels, each below n
pub record IsTrail (n : ℕ) (trail : Trail) : Type 0 where
  pub streams : trail.streams.items ≡ map (λ former. former.stream) trail.formers.items
  pub below : All (λ former. former.stream < n) trail.formers.items
