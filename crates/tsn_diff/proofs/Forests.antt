use Rattle.std.proofs.Common.{◌≡◌, ◌≢◌, ℕ, zero, suc, ◌*◌, ◌<◌, ◌≤◌, pos, ◌+ℤ◌, ◌≤ℤ◌, false, List, length, set, sum, All, slice_index, Option, Some, None, refl, sym, ◌∙◌, ⊎_elim, arith, length-set, get_or-set_other, get_or-set_same}
use Rattle.std.proofs.lemmas.Bool.{cases_eq}
use Rattle.std.proofs.lemmas.Int.{ints}
use Rattle.std.proofs.lemmas.Option.{same_Some}
use Rattle.std.proofs.lemmas.List.{get_or_default}
use Rattle.std.proofs.lemmas.List.Sums.{sum_by-le, sum_by-set}
use Rattle.tsn_model.specs.declared.Arc.{Arc}
use Rattle.tsn_diff.specs.declared.forest.Step.{Step}
use Rattle.tsn_model.specs.Arcs.{arc_at}
use Rattle.tsn_diff.specs.Limits.{IsArcAmong}
use Rattle.tsn_model.specs.Arcs.{chain_sum}
use Rattle.tsn_diff.specs.Forest.{Labelling, IsStep, IsForest, HasSteps}
use Rattle.tsn_diff.specs.Steps.{last_of, indexes_of}
use Rattle.tsn_diff.specs.Progress.{KeepsRaised, passes_within}
use Rattle.tsn_diff.proofs.Cases.{by_option}
use Rattle.tsn_diff.proofs.Paths.{passes_within-false, Rooted-kept, Rooted-moved}
use Rattle.tsn_diff.proofs.StepPaths.{length-path}
use Rattle.tsn_diff.proofs.Sums.{explained, indexes_in, chain_sum-le}
use Rattle.tsn_diff.proofs.Steps.{length-indexes_of}

pub HasSteps-from_forest : {arcs : List Arc} {labels : Labelling} → IsForest arcs labels → HasSteps labels
HasSteps-from_forest {arcs} {labels} f = record { count = f.count; from_in = λ i s h. omega (arith, f.count, (f.steps i s h).from_in) }

-- no offset is above the greatest release and what n - 1 arcs add
pub offset_small : {arcs : List Arc} {labels : Labelling} → IsForest arcs labels → All (IsArcAmong (length labels.offsets)) arcs → (i : ℕ) → i < length labels.offsets → slice_index labels.offsets i ≤ 154670000000
offset_small {arcs} {labels} f among i l =
    let r = f.rooted i in
    let few : length r.steps < length labels.offsets = length-path (length labels.offsets) (λ j s h. (f.steps j s h).from_in) r.path r.ends l in
    let above = explained arcs labels.offsets labels.last f.steps r.path in
    let heavy = chain_sum-le arcs (length labels.offsets) (indexes_of r.steps) among (indexes_in arcs labels.offsets labels.last f.steps r.path) in
    let heavy' : chain_sum arcs (indexes_of r.steps) ≤ℤ pos (1210000000 * length r.steps) = rw length-indexes_of at heavy in
    let early = f.early r.root r.ends in
    let short = f.few in
    omega (arith, ints, few, above, heavy', early, short)

pub all_small : {arcs : List Arc} {labels : Labelling} → IsForest arcs labels → All (IsArcAmong (length labels.offsets)) arcs → All (λ offset. offset ≤ 154670000000) labels.offsets
all_small {arcs} {labels} f among = λ k d l. rw (get_or_default labels.offsets k d 0 l) (offset_small f among k l)

pub offsets_small : {arcs : List Arc} {labels : Labelling} → IsForest arcs labels → All (IsArcAmong (length labels.offsets)) arcs → sum labels.offsets ≤ length labels.offsets * 154670000000
offsets_small {arcs} {labels} f among = sum_by-le (λ x. x) 154670000000 labels.offsets (all_small f among)

-- the test on the way back fails at its first stream too
pub unlike_from_passes : (last : List (Option Step)) (n v i : ℕ) → 0 < n → passes_within n last v i ≡ false → i ≢ v
unlike_from_passes last zero v i l t = absurd (omega arith)
unlike_from_passes last (suc n) v i l t = (passes_within-false last n v i t).0

-- an arc that is not met, and whose first stream's way back does not pass its last one
pub record Raises (arcs : List Arc) (labels : Labelling) (index value : ℕ) : Type 0 where
  pub forest : IsForest arcs labels
  pub among : IsArcAmong (length labels.offsets) (arc_at arcs index)
  pub index_in : index < length arcs
  pub value_is : pos value ≡ pos (slice_index labels.offsets (arc_at arcs index).from) +ℤ (arc_at arcs index).weight
  pub higher : slice_index labels.offsets (arc_at arcs index).to < value
  pub aside : passes_within (length labels.last) labels.last (arc_at arcs index).to (arc_at arcs index).from ≡ false

-- the labels when the arc's last stream has been raised to this value
abbrev pub raised_labels : List Arc → Labelling → ℕ → ℕ → Labelling
raised_labels arcs labels index value =
    record { offsets = set labels.offsets (arc_at arcs index).to value; last = set labels.last (arc_at arcs index).to (Some (record { index = index; from = (arc_at arcs index).from })) }

module _ (arcs : List Arc) (labels : Labelling) (index value : ℕ) (r : Raises arcs labels index value) where
  to_in : (arc_at arcs index).to < length labels.last
  to_in = omega (arith, r.forest.count, r.among.to_below)

  pub unlike : (arc_at arcs index).from ≢ (arc_at arcs index).to
  unlike = unlike_from_passes labels.last (length labels.last) (arc_at arcs index).to (arc_at arcs index).from (let l = to_in in omega arith) r.aside

  pub offset_same : slice_index (raised_labels arcs labels index value).offsets (arc_at arcs index).to ≡ value
  offset_same = get_or-set_same labels.offsets (arc_at arcs index).to value 0 r.among.to_below

  pub offset_other : (i : ℕ) → i ≢ (arc_at arcs index).to → slice_index (raised_labels arcs labels index value).offsets i ≡ slice_index labels.offsets i
  offset_other i e = get_or-set_other labels.offsets (arc_at arcs index).to i value 0 e

  pub last_other : (i : ℕ) → i ≢ (arc_at arcs index).to → last_of (raised_labels arcs labels index value).last i ≡ last_of labels.last i
  last_other i e = get_or-set_other labels.last (arc_at arcs index).to i _ None e

  pub last_same : last_of (raised_labels arcs labels index value).last (arc_at arcs index).to ≡ Some (record { index = index; from = (arc_at arcs index).from })
  last_same = get_or-set_same labels.last (arc_at arcs index).to _ None to_in

  pub offset_rises : (i : ℕ) → slice_index labels.offsets i ≤ slice_index (raised_labels arcs labels index value).offsets i
  offset_rises i =
      ⊎_elim (λ (e : i ≡ (arc_at arcs index).to). let h = r.higher in rw (e, offset_same) (omega (arith, h)))
      (λ (e : i ≢ (arc_at arcs index).to). omega (arith, offset_other i e)) (cases_eq i (arc_at arcs index).to)

  raised_step : (i : ℕ) (s : Step) → last_of (raised_labels arcs labels index value).last i ≡ Some s → IsStep arcs (raised_labels arcs labels index value).offsets i s
  raised_step i s h =
      ⊎_elim (λ (e : i ≡ (arc_at arcs index).to).
      let new : record { index = index; from = (arc_at arcs index).from } ≡ s = same_Some _ _ (sym last_same ∙ (rw e at h)) in
      rw (e, ← new) (record {
        index_in = r.index_in;
        ends = refl;
        begins = refl;
        from_in = rw length-set r.among.from_below;
        explains = rw (offset_same, offset_other (arc_at arcs index).from unlike) (omega (arith, ints, r.value_is));
      }))
      (λ (e : i ≢ (arc_at arcs index).to).
      let f = r.forest.steps i s (sym (last_other i e) ∙ h) in
      record {
        index_in = f.index_in;
        ends = f.ends;
        begins = f.begins;
        from_in = rw length-set f.from_in;
        explains = rw (offset_other i e) (omega (arith, ints, f.explains, offset_rises s.from));
      }) (cases_eq i (arc_at arcs index).to)

  pub IsForest-raised : IsForest arcs (raised_labels arcs labels index value)
  IsForest-raised = record {
    count = rw (length-set, length-set) r.forest.count;
    few = rw length-set r.forest.few;
    early = λ i h. ⊎_elim (λ (e : i ≡ (arc_at arcs index).to). let h' = rw (e, last_same) at h in cc)
        (λ (e : i ≢ (arc_at arcs index).to). rw (offset_other i e) (r.forest.early i (sym (last_other i e) ∙ h))) (cases_eq i (arc_at arcs index).to);
    steps = raised_step;
    rooted = λ i.
        let under = r.forest.rooted (arc_at arcs index).from in
        let short = length-path (length labels.last) (HasSteps-from_forest r.forest).from_in under.path under.ends (omega (arith, r.forest.count, r.among.from_below)) in
        let way = r.forest.rooted i in
        Rooted-moved labels.last (arc_at arcs index).to (record { index = index; from = (arc_at arcs index).from }) to_in (Rooted-kept labels.last (arc_at arcs index).to (record { index = index; from = (arc_at arcs index).from }) to_in (length labels.last) under.path under.ends short r.aside) way.path way.ends;
  }

  pub KeepsRaised-raised : KeepsRaised labels (raised_labels arcs labels index value)
  KeepsRaised-raised = λ releases old. record {
    count = rw length-set old.count;
    kept = λ i h. ⊎_elim (λ (e : i ≡ (arc_at arcs index).to). let h' = rw (e, last_same) at h in cc)
        (λ (e : i ≢ (arc_at arcs index).to). offset_other i e ∙ old.kept i (sym (last_other i e) ∙ h)) (cases_eq i (arc_at arcs index).to);
    raised = λ i s h. ⊎_elim
        (λ (e : i ≡ (arc_at arcs index).to). rw (e, offset_same)
        (by_option (last_of labels.last (arc_at arcs index).to)
        (λ n. let k = old.kept (arc_at arcs index).to n in let g = r.higher in omega arith)
        (λ t n. let k = old.raised (arc_at arcs index).to t n in let g = r.higher in omega arith)))
        (λ (e : i ≢ (arc_at arcs index).to). rw (offset_other i e) (old.raised i s (sym (last_other i e) ∙ h))) (cases_eq i (arc_at arcs index).to);
  }

  pub sum-raised : sum labels.offsets < sum (raised_labels arcs labels index value).offsets
  sum-raised =
      let e = sum_by-set (λ x. x) labels.offsets (arc_at arcs index).to value 0 r.among.to_below in
      let h = r.higher in
      omega (arith, e, h)

-- an arc of the list
pub arc_among : (arcs : List Arc) (n index : ℕ) → All (IsArcAmong n) arcs → index < length arcs → IsArcAmong n (arc_at arcs index)
arc_among arcs n index among l = among index (record { from = 0; to = 0; weight = pos 0 }) l
