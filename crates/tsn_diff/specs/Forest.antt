use Rattle.std.specs.Prelude.{◌≡◌, ℕ, ◌-◌, ◌<◌, ◌≤◌, pos, ◌+ℤ◌, ◌≤ℤ◌, List, length, slice_index, slice_get, All, Option, Some, None, map}
use Rattle.std.specs.List.{range_with_len}
use Rattle.std.specs.Option.{option_map_or}
use Rattle.tsn_diff.specs.Steps.{last_of, Rooted, steps_back, indexes_of}
use Rattle.tsn_model.specs.declared.Arc.{Arc}
use Rattle.tsn_diff.specs.declared.forest.Step.{Step}
use Rattle.tsn_diff.specs.declared.solve.TheConstants.{MAX_RELEASE}
use Rattle.tsn_diff.specs.declared.forest.TheConstants.{MAX_STREAMS}
use Rattle.tsn_model.specs.Arcs.{arc_at, HoldsAll}
use Rattle.tsn_diff.specs.Limits.{IsArcAmong}
use Rattle.tsn_diff.specs.Offsets.{LeastOffsets}

-- offsets, and for each stream the last step of its chain
pub record Labelling : Type 0 where
  pub offsets : List ℕ
  pub last : List (Option Step)

-- the step is an arc to the stream, by which the stream's offset is no more than explained
pub record IsStep (arcs : List Arc) (offsets : List ℕ) (stream : ℕ) (step : Step) : Type 0 where
  pub index_in : step.index < length arcs
  pub ends : (arc_at arcs step.index).to ≡ stream
  pub begins : (arc_at arcs step.index).from ≡ step.from
  pub from_in : step.from < length offsets
  pub explains : pos (slice_index offsets stream) ≤ℤ (pos (slice_index offsets step.from) +ℤ (arc_at arcs step.index).weight)

-- the steps lead each stream back to one that has none
pub record IsForest (arcs : List Arc) (labels : Labelling) : Type 0 where
  pub count : length labels.last ≡ length labels.offsets
  pub few : length labels.offsets ≤ MAX_STREAMS
  pub early : (stream : ℕ) → last_of labels.last stream ≡ None → slice_index labels.offsets stream ≤ MAX_RELEASE
  pub steps : (stream : ℕ) (step : Step) → last_of labels.last stream ≡ Some step → IsStep arcs labels.offsets stream step
  pub rooted : (stream : ℕ) → Rooted labels.last stream

-- a stream is above its release exactly where it has a step
pub record IsRaised (releases : List ℕ) (labels : Labelling) : Type 0 where
  pub count : length labels.offsets ≡ length releases
  pub kept : (stream : ℕ) → last_of labels.last stream ≡ None → slice_index labels.offsets stream ≡ slice_index releases stream
  pub raised : (stream : ℕ) (step : Step) → last_of labels.last stream ≡ Some step → slice_index releases stream < slice_index labels.offsets stream

-- the chain that a stream's steps make
abbrev pub chain_by : Labelling → ℕ → List ℕ
chain_by labels stream = indexes_of (steps_back (length labels.last) labels.last None stream)

-- the offsets with the chains that the steps make
abbrev pub least_by : List ℕ → List Arc → Labelling → LeastOffsets
least_by releases arcs labels =
    record { releases = releases; arcs = arcs; offsets = labels.offsets; chains = map (chain_by labels) (range_with_len 0 (length labels.last)) }

-- the last step of a chain
abbrev pub step_of : List Arc → List ℕ → Option Step
step_of arcs chain = option_map_or (λ index. Some (record { index = index; from = (arc_at arcs index).from })) (slice_get chain (length chain - 1)) None

-- the labels whose steps make the chains
abbrev pub labelling_by : LeastOffsets → Labelling
labelling_by least = record { offsets = least.offsets; last = map (step_of least.arcs) least.chains }

-- the labels meet every arc, and are raised from the releases no more than their steps explain
pub record Settles (releases : List ℕ) (arcs : List Arc) (labels : Labelling) : Type 0 where
  pub among : All (IsArcAmong (length releases)) arcs
  pub forest : IsForest arcs labels
  pub raised : IsRaised releases labels
  pub met : HoldsAll labels.offsets arcs

-- every step begins at one of the streams
pub record HasSteps (labels : Labelling) : Type 0 where
  pub count : length labels.last ≡ length labels.offsets
  pub from_in : (stream : ℕ) (step : Step) → last_of labels.last stream ≡ Some step → step.from < length labels.last
