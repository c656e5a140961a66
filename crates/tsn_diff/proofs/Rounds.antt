use Rattle.std.proofs.Common.{◌≡◌, ℕ, pos, ◌+◌, ◌<◌, ◌≤◌, List, length, take, sum, All, refl, sym, ◌∙◌, subst, arith, take_all}
use Rattle.std.proofs.lemmas.List.Elements.{All-more}
use Rattle.tsn_model.specs.declared.Arc.{Arc}
use Rattle.tsn_diff.specs.declared.labels.Progress.{Progress}
use Rattle.tsn_diff.specs.declared.labels.Progress.TheVariants.{Steady, Raised, Closed}
use Rattle.tsn_model.specs.Arcs.{Holds}
use Rattle.tsn_diff.specs.Forest.{Labelling}
use Rattle.tsn_diff.specs.Progress.{Corrects, CorrectsAll}

-- what the first arcs of a round came to
abbrev pub SoFar : List Arc → ℕ → Labelling → Labelling → Progress → Type 0
SoFar arcs index old new Steady = (new ≡ old) × All (Holds new.offsets) (take index arcs)
SoFar arcs index old new Raised = sum old.offsets < sum new.offsets
SoFar arcs index old new (Closed closing) = ⊥

pub SoFar-none : (arcs : List Arc) (labels : Labelling) → SoFar arcs 0 labels labels Steady
SoFar-none arcs labels = (refl, λ k d l. absurd (omega arith))

pub SoFar-steady : (arcs : List Arc) (index : ℕ) (old now new : Labelling) (p : Progress) → index < length arcs → SoFar arcs index old now p → Corrects arcs index now new Steady → SoFar arcs (index + 1) old new p
SoFar-steady arcs index old now new Steady l before here =
    (here.0 ∙ before.0, All-more (Holds new.offsets) arcs index (record { from = 0; to = 0; weight = pos 0 }) l (subst (λ (x : Labelling). All (Holds x.offsets) (take index arcs)) (sym here.0) before.1) here.1)
SoFar-steady arcs index old now new Raised l before here = subst (λ (x : Labelling). sum old.offsets < sum x.offsets) (sym here.0) before
SoFar-steady arcs index old now new (Closed closing) l before here = before

pub SoFar-raised : (arcs : List Arc) (index : ℕ) (old now new : Labelling) (p : Progress) → SoFar arcs index old now p → Corrects arcs index now new Raised → SoFar arcs (index + 1) old new Raised
SoFar-raised arcs index old now new Steady before here = subst (λ (x : Labelling). sum x.offsets < sum new.offsets) before.0 here
SoFar-raised arcs index old now new Raised before here = omega (arith, before, here)
SoFar-raised arcs index old now new (Closed closing) before here = absurd before

pub SoFar-all : (arcs : List Arc) (index : ℕ) (old new : Labelling) (p : Progress) → length arcs ≤ index → SoFar arcs index old new p → CorrectsAll arcs old new p
SoFar-all arcs index old new Steady l before = rw (take_all) at before.1
SoFar-all arcs index old new Raised l before = before
SoFar-all arcs index old new (Closed closing) l before = absurd before
