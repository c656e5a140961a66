-- Arcs put in one after another, and the least offsets that meet them.
use Rattle.std.specs.Prelude.{◌≡◌, ℕ, ◌+◌, ◌-◌, ◌<◌, ◌≤◌, ◌⊎◌, List, [], ◌∷◌, ◌++◌, length, take, drop, slice_index, slice_index_or, All, Contains}
use Rattle.tsn_model.specs.declared.Arc.{Arc}
use Rattle.tsn_model.specs.Schedule.{offset_of}
use Rattle.tsn_diff.specs.declared.listing.Listing.{Listing}
use Rattle.tsn_diff.specs.declared.trail.Former.{Former}
use Rattle.tsn_diff.specs.declared.trail.Trail.{Trail}
use Rattle.tsn_diff.specs.Offsets.{IsLeast, LeastOffsets}
use Rattle.tsn_diff.specs.Forest.{Labelling, Settles}
use Rattle.tsn_diff.specs.Listing.{IsListing}
use Rattle.tsn_diff.specs.Trail.{IsTrail, put_back_all}

-- the least offsets for the arcs that were put in, and the streams that the last arc raised
pub record Stack : Type 0 where
  pub least : LeastOffsets
  pub raised : List ℕ

-- each other stream keeps its offset
abbrev pub KeepsOthers : List ℕ → List ℕ → List ℕ → Type 0
KeepsOthers streams old new = (stream : ℕ) → (offset_of new stream ≡ offset_of old stream) ⊎ Contains streams stream

-- the offsets of these streams rise, and no others change
pub record RisesAt (streams old new : List ℕ) : Type 0 where
  pub each : All (λ stream. offset_of old stream < offset_of new stream) streams
  pub others : KeepsOthers streams old new

-- the streams at which the least offsets rise with the last arc; none where there is no arc
pub record AreRaisedLast (releases : List ℕ) (arcs : List Arc) (offsets raised : List ℕ) : Type 0 where
  pub none : arcs ≡ [] → raised ≡ []
  pub last : (before : List Arc) (arc : Arc) → arcs ≡ before ++ arc ∷ [] → (old : List ℕ) → IsLeast releases before old → RisesAt raised old offsets

-- how many raises were noted before the last arc
abbrev pub last_mark : List ℕ → ℕ
last_mark marks = slice_index marks (length marks - 1)

abbrev pub stack_of : LeastOffsets → Listing → Trail → Stack
stack_of least listing trail = record { least = least; raised = drop (last_mark listing.marks.items) trail.streams.items }

-- how many raises were noted before the arc at this index, or all, where there is none
abbrev pub mark_at : List ℕ → List Former → ℕ → ℕ
mark_at marks formers k = slice_index_or marks k (length formers)

-- what was noted for the arc at this index
abbrev pub noted_for : List ℕ → List Former → ℕ → List Former
noted_for marks formers k = drop (slice_index marks k) (take (mark_at marks formers (k + 1)) formers)

-- the least offsets rise at these former labels' streams
abbrev pub RiseAt : List Former → List ℕ → List ℕ → Type 0
RiseAt formers old new = All (λ former. offset_of old former.stream < offset_of new former.stream) formers

-- the labels settle the arcs, and what was noted from an arc's mark on puts back labels that settle the arcs before it, and
-- was noted for streams that the arc raised
pub record IsLayered (releases : List ℕ) (labels : Labelling) (arcs : List Arc) (marks : List ℕ) (formers : List Former) : Type 0 where
  pub settles : Settles releases arcs labels
  pub count : length marks ≡ length arcs
  pub marks_in : (k : ℕ) → k < length marks → slice_index marks k ≤ length formers
  pub rising : (j k : ℕ) → j ≤ k → k < length marks → slice_index marks j ≤ slice_index marks k
  pub below : (k : ℕ) → k < length marks → Settles releases (take k arcs) (put_back_all (drop (slice_index marks k) formers) labels)
  pub first : mark_at marks formers 0 ≡ 0
  pub rises : (k : ℕ) → k < length marks → (old new : List ℕ) → IsLeast releases (take k arcs) old → IsLeast releases (take (k + 1) arcs) new → RiseAt (noted_for marks formers k) old new

-- what a stack keeps
pub record IsStack (releases : List ℕ) (arcs : List Arc) (labels : Labelling) (listing : Listing) (trail : Trail) : Type 0 where
  pub layered : IsLayered releases labels arcs listing.marks.items trail.formers.items
  pub listed : IsListing (length releases) arcs listing
  pub noted : IsTrail (length releases) trail
