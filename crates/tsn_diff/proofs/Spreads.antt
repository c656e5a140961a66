-- Why a stream that isn't fixed can be raised, and why an arc that asks to raise a fixed one closes a chain.
use Rattle.std.proofs.Common.{◌≡◌, ℕ, zero, suc, ◌+◌, ◌<◌, ◌≤◌, ◌⊎◌, pos, ◌+ℤ◌, ◌<ℤ◌, true, false, eqb, List, [], ◌∷◌, length, Option, Some, None, refl, sym, ap, ◌∙◌, subst, inl, inr, ⊎_elim, arith}
use Rattle.std.proofs.lemmas.Bool.{eq-eqb, cases_lt}
use Rattle.std.proofs.lemmas.Int.{ints}
use Rattle.std.proofs.lemmas.List.{get_or_append_left, get_or_push, length_push}
use Rattle.tsn_model.specs.declared.Arc.{Arc}
use Rattle.tsn_model.specs.Schedule.{offset_of}
use Rattle.tsn_model.specs.Arcs.{arc_at, Holds}
use Rattle.tsn_diff.specs.declared.forest.Step.{Step}
use Rattle.tsn_diff.specs.declared.spread.Stage.{Stage}
use Rattle.tsn_diff.specs.declared.spread.Stage.TheVariants.{Fixed}
use Rattle.tsn_diff.specs.declared.spread.Wave.{Wave}
use Rattle.tsn_diff.specs.Forest.{Labelling}
use Rattle.tsn_diff.specs.Steps.{last_of, Path}
use Rattle.tsn_diff.specs.Steps.Path.{here, back}
use Rattle.tsn_diff.specs.Progress.{passes_within, Closes}
use Rattle.tsn_diff.specs.Spread.{Base, all_arcs, stage_of, IsWave}
use Rattle.tsn_diff.proofs.Cases.{by_bool}
use Rattle.tsn_diff.proofs.Paths.{Path-steps_back}
use Rattle.tsn_diff.proofs.StepPaths.{Path-append, length-path_any}

-- a way back that is short enough is found by the test
passes_along : {last : List (Option Step)} {i v : ℕ} {ss : List Step} (n : ℕ) → Path last i ss v → length ss < n → passes_within n last v i ≡ true
passes_along zero p l = absurd (omega arith)
passes_along {i = i} (suc n) here l = rw (eq-eqb i i refl) refl
passes_along {last} {i} {v} (suc n) (back {step = s} h p) l =
    by_bool (eqb i v) (λ yes. rw yes refl) (λ no. rw (no, h) (passes_along n p (omega arith)))

-- the arcs of a base are the old ones and the new one
pub arc_at-old : (base : Base) (index : ℕ) → index < length base.arcs → arc_at (all_arcs base) index ≡ arc_at base.arcs index
arc_at-old base index l = get_or_append_left base.arcs (base.arc ∷ []) (record { from = 0; to = 0; weight = pos 0 }) index l

pub arc_at-new : (base : Base) (index : ℕ) → index < length (all_arcs base) → length base.arcs ≤ index → arc_at (all_arcs base) index ≡ base.arc
arc_at-new base index l m = get_or_push base.arcs base.arc (record { from = 0; to = 0; weight = pos 0 }) index (omega (arith, length_push base.arcs base.arc))

module _ (base : Base) (labels : Labelling) (stages : List Stage) (wave : Wave) (w : IsWave base labels stages wave) where
  -- the labels from before meet the old arcs
  pub met_before : (index : ℕ) → index < length base.arcs → Holds base.labels.offsets (arc_at (all_arcs base) index)
  met_before index l = rw (arc_at-old base index l) (w.met index (record { from = 0; to = 0; weight = pos 0 }) l)

  -- what lies on the way back from a fixed stream is fixed
  fixed_along : {i v : ℕ} {ss : List Step} → Path labels.last i ss v → stage_of stages i ≡ Fixed → stage_of stages v ≡ Fixed
  fixed_along here f = f
  fixed_along {i} (back {step = s} h p) f = fixed_along p (w.fixed.closed i s f h)

  -- a step by the new arc leads to its first stream
  new_step : (i : ℕ) (s : Step) → last_of labels.last i ≡ Some s → length base.arcs ≤ s.index → s.from ≡ base.arc.from
  new_step i s h l =
      let f = w.forest.steps i s h in
      sym f.begins ∙ ap (λ (a : Arc). a.from) (arc_at-new base s.index f.index_in l)

  -- no stream on a way back has gained less than those after it, before a fixed stream is reached
  gains_along : {i v : ℕ} {ss : List Step} → Path labels.last i ss v → (stage_of stages v ≡ Fixed) ⊎ (offset_of labels.offsets i + offset_of base.labels.offsets v ≤ offset_of labels.offsets v + offset_of base.labels.offsets i)
  gains_along here = inr (omega arith)
  gains_along {i} {v} (back {step = s} h p) =
      let f = w.forest.steps i s h in
      ⊎_elim
      (λ (old : s.index < length base.arcs).
      let m = met_before s.index old in
      ⊎_elim (λ (fixed : stage_of stages v ≡ Fixed). inl fixed)
      (λ (g : offset_of labels.offsets s.from + offset_of base.labels.offsets v ≤ offset_of labels.offsets v + offset_of base.labels.offsets s.from).
      inr (omega (arith, ints, g, f.explains, rw (f.begins, f.ends) at m))) (gains_along p))
      (λ (new : length base.arcs ≤ s.index).
      inl (fixed_along p (rw (new_step i s h new) w.fixed.begins)))
      (cases_lt s.index (length base.arcs))

  -- the way back from a stream that has gained passes the new arc
  from_first : {i r : ℕ} {ss : List Step} → Path labels.last i ss r → last_of labels.last r ≡ None → offset_of base.labels.offsets i < offset_of labels.offsets i → (ts : List Step) × Path labels.last i ts base.arc.from
  from_first {i} here e l = absurd (omega (arith, w.roots i e))
  from_first {i} (back {step = s} h p) e l =
      let f = w.forest.steps i s h in
      ⊎_elim
      (λ (old : s.index < length base.arcs).
      let m = met_before s.index old in
      let rest = from_first p e (omega (arith, ints, l, f.explains, rw (f.begins, f.ends) at m)) in
      (s ∷ rest.0, back h rest.1))
      (λ (new : length base.arcs ≤ s.index).
      (s ∷ [], back h (subst (λ (x : ℕ). Path labels.last s.from [] x) (new_step i s h new) here)))
      (cases_lt s.index (length base.arcs))

  module _ (index : ℕ) (index_in : index < length (all_arcs base)) (unmet : pos (offset_of labels.offsets (arc_at (all_arcs base) index).to) <ℤ (pos (offset_of labels.offsets (arc_at (all_arcs base) index).from) +ℤ (arc_at (all_arcs base) index).weight)) where
    -- an arc that asks to raise a stream that isn't fixed closes no chain
    pub aside : (stage_of stages (arc_at (all_arcs base) index).to ≡ Fixed → ⊥)
        → passes_within (length labels.last) labels.last (arc_at (all_arcs base) index).to (arc_at (all_arcs base) index).from ≡ false
    aside loose =
        let arc = arc_at (all_arcs base) index in
        by_bool (passes_within (length labels.last) labels.last arc.to arc.from)
        (λ yes.
        let way = Path-steps_back labels.last (length labels.last) arc.to arc.from yes in
        absurd (⊎_elim
        (λ (old : index < length base.arcs).
        let m = met_before index old in
        ⊎_elim (λ (fixed : stage_of stages arc.to ≡ Fixed). loose fixed)
        (λ (g : offset_of labels.offsets arc.from + offset_of base.labels.offsets arc.to ≤ offset_of labels.offsets arc.to + offset_of base.labels.offsets arc.from).
        omega (arith, ints, g, m, unmet)) (gains_along way))
        (λ (new : length base.arcs ≤ index).
        loose (fixed_along way (rw (ap (λ (a : Arc). a.from) (arc_at-new base index index_in new)) w.fixed.begins)))
        (cases_lt index (length base.arcs))))
        (λ no. no)

    -- one that asks to raise a fixed stream closes one
    pub closes : stage_of stages (arc_at (all_arcs base) index).to ≡ Fixed → Closes (all_arcs base) labels index
    closes fixed =
        let arc = arc_at (all_arcs base) index in
        let ends = w.among index (record { from = 0; to = 0; weight = pos 0 }) index_in in
        let short = λ (ss : List Step) (p : Path labels.last arc.from ss arc.to). length-path_any (length labels.last) (λ j s h. omega (arith, w.forest.count, (w.forest.steps j s h).from_in)) p (w.forest.rooted arc.to) (omega (arith, w.noted.last, ends.from_below)) in
        let further = w.fixed.way arc.to fixed in
        record {
          index_in = index_in;
          unmet = unmet;
          passes = ⊎_elim
              (λ (old : index < length base.arcs).
              let m = met_before index old in
              let r = w.forest.rooted arc.from in
              let up = from_first r.path r.ends (omega (arith, ints, m, unmet, w.kept arc.to fixed)) in
              let way = Path-append up.1 further.1 in
              passes_along (length labels.last) way (short _ way))
              (λ (new : length base.arcs ≤ index).
              let way = subst (λ (x : ℕ). Path labels.last x further.0 arc.to) (sym (ap (λ (a : Arc). a.from) (arc_at-new base index index_in new))) further.1 in
              passes_along (length labels.last) way (short _ way))
              (cases_lt index (length base.arcs));
        }
