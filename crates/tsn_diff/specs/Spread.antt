-- How one more arc is taken into account: the streams that it raises, and where a chain closes.
use Rattle.std.specs.Prelude.{◌≡◌, ℕ, ◌+◌, ◌<◌, ◌≤◌, ◌⊎◌, List, [], ◌∷◌, ◌++◌, length, map, sum, take, drop, slice_index_or, Option, Some, None, All, Contains}
use Rattle.tsn_model.specs.declared.Arc.{Arc}
use Rattle.tsn_model.specs.Schedule.{offset_of}
use Rattle.tsn_model.specs.Arcs.{arc_at, Holds, HoldsAll}
use Rattle.tsn_diff.specs.declared.forest.Step.{Step}
use Rattle.tsn_diff.specs.declared.listing.Indexed.{Indexed}
use Rattle.tsn_diff.specs.declared.listing.Listing.{Listing}
use Rattle.tsn_diff.specs.declared.trail.Former.{Former}
use Rattle.tsn_diff.specs.declared.trail.Trail.{Trail}
use Rattle.tsn_diff.specs.declared.spread.Stage.{Stage}
use Rattle.tsn_diff.specs.declared.spread.Stage.TheVariants.{Calm, Fixed, Waiting, Settled}
use Rattle.tsn_diff.specs.declared.spread.Wave.{Wave}
use Rattle.tsn_diff.specs.Limits.{IsArcAmong}
use Rattle.tsn_diff.specs.Forest.{Labelling, IsForest}
use Rattle.tsn_diff.specs.Steps.{Path, last_of}
use Rattle.tsn_diff.specs.Progress.{KeepsRaised, IsAsked, Closes}
use Rattle.tsn_diff.specs.Listing.{IsListing}
use Rattle.tsn_diff.specs.Trail.{IsTrail, put_back_all}

-- where a wave starts: labels that meet some arcs, what was noted before, and one arc more
pub record Base : Type 0 where
  pub arcs : List Arc
  pub arc : Arc
  pub labels : Labelling
  pub formers : List Former

-- the arcs with the new one last
abbrev pub all_arcs : Base → List Arc
all_arcs base = base.arcs ++ base.arc ∷ []

-- where the wave of an arc starts
abbrev pub base_of : Labelling → List Arc → Trail → Arc → Base
base_of labels arcs trail arc = record { arcs = arcs; arc = arc; labels = labels; formers = trail.formers.items }

-- an arc with its index
pub record IsIndexed (arcs : List Arc) (indexed : Indexed) : Type 0 where
  pub index_in : indexed.index < length arcs
  pub arc : arc_at arcs indexed.index ≡ indexed.arc

-- the arc there closes a chain
pub record IsClosing (arcs : List Arc) (labels : Labelling) (indexed : Indexed) : Type 0 where
  pub there : IsIndexed arcs indexed
  pub closes : Closes arcs labels indexed.index

-- the former labels that the wave has noted
abbrev pub noted_by : Base → Trail → List Former
noted_by base trail = drop (length base.formers) trail.formers.items

-- what was noted puts the labels back
pub record IsNoted (base : Base) (labels : Labelling) (trail : Trail) : Type 0 where
  pub streams : IsTrail (length base.labels.offsets) trail
  pub before : take (length base.formers) trail.formers.items ≡ base.formers
  pub back : put_back_all (noted_by base trail) labels ≡ base.labels
  pub offsets : length labels.offsets ≡ length base.labels.offsets
  pub last : length labels.last ≡ length base.labels.offsets

-- how a stream stands; those past the end are calm
abbrev pub stage_of : List Stage → ℕ → Stage
stage_of stages stream = slice_index_or stages stream Calm

-- the queue, where the stream waits in it
abbrev pub queue_with : Stage → List ℕ → ℕ → List ℕ
queue_with Calm queue stream = queue ++ stream ∷ []
queue_with Fixed queue stream = queue
queue_with Waiting queue stream = queue
queue_with Settled queue stream = queue ++ stream ∷ []

-- the former labels, where the stream's is among them
abbrev pub formers_with : Stage → List Former → Former → List Former
formers_with Calm formers former = formers ++ former ∷ []
formers_with Fixed formers former = formers
formers_with Waiting formers former = formers
formers_with Settled formers former = formers

-- no stream was looked at so far
abbrev pub AreCalm : List Stage → Type 0
AreCalm stages = (stream : ℕ) → stage_of stages stream ≡ Calm

-- the stream was raised
abbrev pub IsLifted : Stage → Type 0
IsLifted Calm = ⊥
IsLifted Fixed = ⊥
IsLifted Waiting = Unit {0}
IsLifted Settled = Unit {0}

-- exactly the streams on the way back from a stream are fixed
pub record AreFixed (last : List (Option Step)) (stages : List Stage) (first : ℕ) : Type 0 where
  pub begins : stage_of stages first ≡ Fixed
  pub closed : (stream : ℕ) (step : Step) → stage_of stages stream ≡ Fixed → last_of last stream ≡ Some step → stage_of stages step.from ≡ Fixed
  pub way : (stream : ℕ) → stage_of stages stream ≡ Fixed → (steps : List Step) × Path last first steps stream

-- the stream at an index of the queue
pub record IsQueued (n : ℕ) (stages : List Stage) (stream : ℕ) : Type 0 where
  pub stream_in : stream < n
  pub lifted : IsLifted (stage_of stages stream)

-- labels on the way from those that met the arcs to those that meet the new one too
pub record IsWave (base : Base) (labels : Labelling) (stages : List Stage) (wave : Wave) : Type 0 where
  pub among : All (IsArcAmong (length base.labels.offsets)) (all_arcs base)
  pub met : HoldsAll base.labels.offsets base.arcs
  pub noted : IsNoted base labels wave.trail
  pub room : length base.labels.offsets ≤ length stages
  pub forest : IsForest (all_arcs base) labels
  pub raised : KeepsRaised base.labels labels
  pub rises : (stream : ℕ) → offset_of base.labels.offsets stream ≤ offset_of labels.offsets stream
  pub roots : (stream : ℕ) → last_of labels.last stream ≡ None → offset_of labels.offsets stream ≡ offset_of base.labels.offsets stream
  pub fixed : AreFixed labels.last stages base.arc.from
  pub kept : (stream : ℕ) → stage_of stages stream ≡ Fixed → offset_of labels.offsets stream ≡ offset_of base.labels.offsets stream
  pub lifted : (stream : ℕ) → IsLifted (stage_of stages stream) → Contains (map (λ former. former.stream) (noted_by base wave.trail)) stream
  pub each : All (λ former. offset_of base.labels.offsets former.stream < offset_of labels.offsets former.stream) (noted_by base wave.trail)
  pub queued : All (IsQueued (length base.labels.offsets) stages) wave.queue.items

-- an arc of all arcs that asks for more than its last stream has
pub record IsRise (base : Base) (labels : Labelling) (stages : List Stage) (wave : Wave) (indexed : Indexed) (offset : ℕ) : Type 0 where
  pub moves : IsWave base labels stages wave
  pub there : IsIndexed (all_arcs base) indexed
  pub asked : IsAsked labels.offsets indexed.arc offset

-- a stream whose arcs are to be looked at now
pub record IsTurn (base : Base) (labels : Labelling) (stages : List Stage) (wave : Wave) (listing : Listing) (stream : ℕ) : Type 0 where
  pub moves : IsWave base labels stages wave
  pub listed : IsListing (length base.labels.offsets) base.arcs listing
  pub stream_in : stream < length base.labels.offsets
  pub settled : stage_of stages stream ≡ Settled

-- every stream that waits has an index in the queue
abbrev pub AreQueued : List Stage → List ℕ → Type 0
AreQueued stages queue = (stream : ℕ) → stage_of stages stream ≡ Waiting → Contains queue stream

-- the arcs that begin at a stream are met
abbrev pub MeetsFrom : List Arc → List ℕ → ℕ → Type 0
MeetsFrom arcs offsets stream = (index : ℕ) → index < length arcs → (arc_at arcs index).from ≡ stream → Holds offsets (arc_at arcs index)

-- what a wave starts with
pub record IsStart (base : Base) (labels : Labelling) (trail : Trail) (listing : Listing) (arc : Arc) : Type 0 where
  pub labels_are : base.labels ≡ labels
  pub arc_is : base.arc ≡ arc
  pub formers_are : base.formers ≡ trail.formers.items
  pub among : All (IsArcAmong (length base.labels.offsets)) (all_arcs base)
  pub forest : IsForest base.arcs base.labels
  pub met : HoldsAll base.labels.offsets base.arcs
  pub listed : IsListing (length base.labels.offsets) base.arcs listing
  pub noted : IsTrail (length base.labels.offsets) trail

-- a wave that has ended: every arc is met, and the offsets rose at the streams that were noted
pub record IsWide (base : Base) (labels : Labelling) (trail : Trail) : Type 0 where
  pub forest : IsForest (all_arcs base) labels
  pub raised : KeepsRaised base.labels labels
  pub met : HoldsAll labels.offsets (all_arcs base)
  pub each : All (λ former. offset_of base.labels.offsets former.stream < offset_of labels.offsets former.stream) (noted_by base trail)

-- an arc is met, or its first stream waits
abbrev pub IsSeen : List Arc → Labelling → List Stage → ℕ → Type 0
IsSeen arcs labels stages index = Holds labels.offsets (arc_at arcs index) ⊎ (stage_of stages (arc_at arcs index).from ≡ Waiting)

-- the wave goes on: no arc is lost from sight, and each raise has added at most one index to the queue
pub record GoesOn (arcs : List Arc) (old new : Labelling) (before after : List Stage) (queue longer : List ℕ) : Type 0 where
  pub seen : (index : ℕ) → index < length arcs → IsSeen arcs old before index → IsSeen arcs new after index
  pub queued : (turn : ℕ) → turn ≤ length queue → AreQueued before (drop turn queue) → AreQueued after (drop turn longer)
  pub more : length queue ≤ length longer
  pub raises : length longer + sum old.offsets ≤ length queue + sum new.offsets
