use Rattle.std.specs.Prelude.{◌≡◌, ℕ, zero, suc, ◌<◌, ◌==◌, pos, ◌+ℤ◌, ◌<ℤ◌, Bool, true, false, cond, List, length, sum, Option}
use Rattle.std.specs.Option.{option_map_or}
use Rattle.tsn_model.specs.declared.Arc.{Arc}
use Rattle.tsn_diff.specs.declared.labels.Progress.{Progress}
use Rattle.tsn_diff.specs.declared.labels.Progress.TheVariants.{Steady, Raised, Closed}
use Rattle.tsn_model.specs.Schedule.{offset_of}
use Rattle.tsn_model.specs.Arcs.{arc_at, Holds, HoldsAll}
use Rattle.tsn_diff.specs.declared.forest.Step.{Step}
use Rattle.tsn_diff.specs.Forest.{Labelling, IsRaised}
use Rattle.tsn_diff.specs.Steps.{last_of}

-- whether one of the first n streams on the way back from a stream is `through`
abbrev pub passes_within : ℕ → List (Option Step) → ℕ → ℕ → Bool
passes_within zero last through stream = false
passes_within (suc n) last through stream =
    cond (stream == through) true (option_map_or (λ step. passes_within n last through step.from) (last_of last stream) false)

-- whatever releases the streams were raised from, they still are
abbrev pub KeepsRaised : Labelling → Labelling → Type 0
KeepsRaised old new = (releases : List ℕ) → IsRaised releases old → IsRaised releases new

-- the arc at this index is not met, and the chain of its first stream passes its last one
pub record Closes (arcs : List Arc) (labels : Labelling) (index : ℕ) : Type 0 where
  pub index_in : index < length arcs
  pub unmet : pos (offset_of labels.offsets (arc_at arcs index).to) <ℤ (pos (offset_of labels.offsets (arc_at arcs index).from) +ℤ (arc_at arcs index).weight)
  pub passes : passes_within (length labels.last) labels.last (arc_at arcs index).to (arc_at arcs index).from ≡ true

-- the offset to which an arc that is not met asks to raise its last stream
pub record IsAsked (offsets : List ℕ) (arc : Arc) (offset : ℕ) : Type 0 where
  pub value : pos offset ≡ pos (offset_of offsets arc.from) +ℤ arc.weight
  pub higher : offset_of offsets arc.to < offset

-- what a correction by one arc says
abbrev pub Corrects : List Arc → ℕ → Labelling → Labelling → Progress → Type 0
Corrects arcs index old new Steady = (new ≡ old) × Holds new.offsets (arc_at arcs index)
Corrects arcs index old new Raised = sum old.offsets < sum new.offsets
Corrects arcs index old new (Closed closing) = Closes arcs new closing

-- what a round of corrections says
abbrev pub CorrectsAll : List Arc → Labelling → Labelling → Progress → Type 0
CorrectsAll arcs old new Steady = HoldsAll new.offsets arcs
CorrectsAll arcs old new Raised = sum old.offsets < sum new.offsets
CorrectsAll arcs old new (Closed closing) = Closes arcs new closing
