-- A raise keeps what a wave keeps.
use Rattle.std.proofs.Common.{◌≡◌, ◌≢◌, ℕ, ◌+◌, ◌<◌, ◌≤◌, pos, ◌+ℤ◌, ◌<ℤ◌, List, [], ◌∷◌, ◌++◌, length, map, set, drop, All, Contains, Some, refl, sym, ap, ◌∙◌, inl, inr, ⊎_elim, arith, length-set, length-take, get_or-set_other, get_or-set_same}
use Rattle.std.proofs.lemmas.Bool.{cases_eq}
use Rattle.std.proofs.lemmas.Int.{ints}
use Rattle.std.proofs.lemmas.List.{drop-append-le, take-append-le, length_push, map_push}
use Rattle.std.proofs.lemmas.List.Elements.{All-push, All-weaker, Contains-append_left, Contains-push}
use Rattle.tsn_model.specs.declared.Arc.{Arc}
use Rattle.tsn_model.specs.Schedule.{offset_of}
use Rattle.tsn_model.specs.Arcs.{arc_at, Holds}
use Rattle.tsn_diff.specs.declared.forest.Step.{Step}
use Rattle.tsn_diff.specs.declared.listing.Indexed.{Indexed}
use Rattle.tsn_diff.specs.declared.trail.Former.{Former}
use Rattle.tsn_diff.specs.declared.spread.Stage.{Stage}
use Rattle.tsn_diff.specs.declared.spread.Stage.TheVariants.{Calm, Fixed, Waiting, Settled}
use Rattle.tsn_diff.specs.declared.spread.Wave.{Wave}
use Rattle.tsn_diff.specs.Forest.{Labelling}
use Rattle.tsn_diff.specs.Steps.{Path}
use Rattle.tsn_diff.specs.Steps.Path.{here, back}
use Rattle.tsn_diff.specs.Progress.{IsAsked}
use Rattle.tsn_diff.specs.Trail.{IsTrail, former_of, put_back_all}
use Rattle.tsn_diff.specs.Spread.{Base, all_arcs, IsIndexed, noted_by, stage_of, AreFixed, IsNoted, IsQueued, IsWave, AreQueued, IsSeen, GoesOn, queue_with, formers_with}
use Rattle.tsn_diff.proofs.Forests.{Raises, raised_labels, unlike, offset_same, offset_other, last_same, last_other, offset_rises, IsForest-raised, KeepsRaised-raised, sum-raised}
use Rattle.tsn_diff.proofs.Spreads.{aside}
use Rattle.tsn_diff.proofs.Trails.{put_back_all-append, put_back_noted, put_back_again}

by_stage : {P : Type 0} (s : Stage) → (s ≡ Calm → P) → (s ≡ Fixed → P) → (s ≡ Waiting → P) → (s ≡ Settled → P) → P
by_stage {P} s calm fixed waiting settled =
    (elim s as (λ v. (v ≡ Calm → P) → (v ≡ Fixed → P) → (v ≡ Waiting → P) → (v ≡ Settled → P) → P) [
      | Calm ↦ λ a b c d. a refl
      | Fixed ↦ λ a b c d. b refl
      | Waiting ↦ λ a b c d. c refl
      | Settled ↦ λ a b c d. d refl
    ]) calm fixed waiting settled

-- no more was noted than there is
marked : (base : Base) (labels : Labelling) (wave : Wave) → IsNoted base labels wave.trail → length base.formers ≤ length wave.trail.formers.items
marked base labels wave n = omega (arith, ap length n.before, length-take (length base.formers) wave.trail.formers.items)

module _ (base : Base) (labels : Labelling) (stages : List Stage) (wave next : Wave) (index value : ℕ) (w : IsWave base labels stages wave) (r : Raises (all_arcs base) labels index value) (loose : stage_of stages (arc_at (all_arcs base) index).to ≡ Fixed → ⊥)
    (trail : IsTrail (length labels.offsets) next.trail)
    (queue : next.queue.items ≡ queue_with (stage_of stages (arc_at (all_arcs base) index).to) wave.queue.items (arc_at (all_arcs base) index).to)
    (formers : next.trail.formers.items ≡ formers_with (stage_of stages (arc_at (all_arcs base) index).to) wave.trail.formers.items (former_of labels (arc_at (all_arcs base) index).to)) where
  abbrev to : ℕ
  to = (arc_at (all_arcs base) index).to

  abbrev new : Labelling
  new = raised_labels (all_arcs base) labels index value

  abbrev after : List Stage
  after = set stages to Waiting

  -- the streams that were noted
  abbrev streams : Wave → List ℕ
  streams x = map (λ (f : Former). f.stream) (noted_by base x.trail)

  to_below : to < length stages
  to_below = omega (arith, r.among.to_below, w.noted.offsets, w.room)

  stands : stage_of after to ≡ Waiting
  stands = get_or-set_same stages to Waiting Calm to_below

  stands_other : (i : ℕ) → i ≢ to → stage_of after i ≡ stage_of stages i
  stands_other i e = get_or-set_other stages to i Waiting Calm e

  -- what is fixed isn't the raised stream
  fixed_other : (i : ℕ) → stage_of stages i ≡ Fixed → i ≢ to
  fixed_other i f e = loose (rw e at f)

  still_fixed : (i : ℕ) → stage_of after i ≡ Fixed → stage_of stages i ≡ Fixed
  still_fixed i f =
      ⊎_elim (λ (e : i ≡ to). let g = rw (e, stands) at f in cc) (λ (e : i ≢ to). sym (stands_other i e) ∙ f) (cases_eq i to)

  now_fixed : (i : ℕ) → stage_of stages i ≡ Fixed → stage_of after i ≡ Fixed
  now_fixed i f = stands_other i (fixed_other i f) ∙ f

  path_kept : {i j : ℕ} {ss : List Step} → Path labels.last i ss j → stage_of stages i ≡ Fixed → Path new.last i ss j
  path_kept here f = here
  path_kept {i} (back {step = s} h p) f =
      back (last_other (all_arcs base) labels index value r i (fixed_other i f) ∙ h) (path_kept p (w.fixed.closed i s f h))

  AreFixed-raised : AreFixed new.last after base.arc.from
  AreFixed-raised = record {
    begins = now_fixed base.arc.from w.fixed.begins;
    closed = λ i s f h.
        let g = still_fixed i f in
        now_fixed s.from (w.fixed.closed i s g (sym (last_other (all_arcs base) labels index value r i (fixed_other i g)) ∙ h));
    way = λ i f. let g = w.fixed.way i (still_fixed i f) in (g.0, path_kept g.1 w.fixed.begins);
  }

  noted_is : noted_by base next.trail ≡ formers_with (stage_of stages to) (noted_by base wave.trail) (former_of labels to)
  noted_is =
      by_stage (stage_of stages to)
      (λ e. rw (formers, e) (drop-append-le (length base.formers) wave.trail.formers.items (former_of labels to ∷ []) (marked base labels wave w.noted)))
      (λ e. rw (formers, e) refl) (λ e. rw (formers, e) refl) (λ e. rw (formers, e) refl)

  still_noted : (i : ℕ) → Contains (streams wave) i → Contains (streams next) i
  still_noted i among =
      by_stage (stage_of stages to)
      (λ e. rw (noted_is, e, map_push (λ (f : Former). f.stream) (noted_by base wave.trail) (former_of labels to)) (Contains-append_left (streams wave) (to ∷ []) i among))
      (λ e. rw (noted_is, e) among) (λ e. rw (noted_is, e) among) (λ e. rw (noted_is, e) among)

  now_noted : Contains (streams next) to
  now_noted =
      by_stage (stage_of stages to)
      (λ e. rw (noted_is, e, map_push (λ (f : Former). f.stream) (noted_by base wave.trail) (former_of labels to)) (Contains-push (streams wave) to))
      (λ e. absurd (loose e)) (λ e. still_noted to (w.lifted to (rw e tt))) (λ e. still_noted to (w.lifted to (rw e tt)))

  -- what is written at the raised stream
  abbrev written : Former
  written = record { stream = to; offset = value; last = Some (record { index = index; from = (arc_at (all_arcs base) index).from }) }

  back_is : put_back_all (noted_by base next.trail) new ≡ base.labels
  back_is =
      by_stage (stage_of stages to)
      (λ e. rw (noted_is, e) (put_back_all-append (noted_by base wave.trail) (former_of labels to ∷ []) new ∙ ap (put_back_all (noted_by base wave.trail)) (put_back_noted labels written) ∙ w.noted.back))
      (λ e. absurd (loose e))
      (λ e. rw (noted_is, e) (put_back_again (noted_by base wave.trail) written labels (w.lifted to (rw e tt)) ∙ w.noted.back))
      (λ e. rw (noted_is, e) (put_back_again (noted_by base wave.trail) written labels (w.lifted to (rw e tt)) ∙ w.noted.back))

  pub IsNoted-raised : IsNoted base new next.trail
  IsNoted-raised = record {
    streams = rw (← w.noted.offsets) trail;
    before = by_stage (stage_of stages to)
        (λ e. rw (formers, e) (take-append-le (length base.formers) wave.trail.formers.items (former_of labels to ∷ []) (marked base labels wave w.noted) ∙ w.noted.before))
        (λ e. rw (formers, e) w.noted.before) (λ e. rw (formers, e) w.noted.before) (λ e. rw (formers, e) w.noted.before);
    back = back_is;
    offsets = length-set labels.offsets to value ∙ w.noted.offsets;
    last = length-set labels.last to _ ∙ w.noted.last;
  }

  each_rises : (f : Former) → offset_of base.labels.offsets f.stream < offset_of labels.offsets f.stream → offset_of base.labels.offsets f.stream < offset_of new.offsets f.stream
  each_rises f l = omega (arith, l, offset_rises (all_arcs base) labels index value r f.stream)

  each_is : All (λ (f : Former). offset_of base.labels.offsets f.stream < offset_of new.offsets f.stream) (noted_by base next.trail)
  each_is =
      let P = λ (f : Former). offset_of base.labels.offsets f.stream < offset_of new.offsets f.stream in
      let before : All P (noted_by base wave.trail) = All-weaker (λ (f : Former). offset_of base.labels.offsets f.stream < offset_of labels.offsets f.stream) P each_rises (noted_by base wave.trail) w.each in
      by_stage (stage_of stages to)
      (λ e. rw (noted_is, e) (All-push P (noted_by base wave.trail) (former_of labels to) before (omega (arith, offset_same (all_arcs base) labels index value r, r.higher, w.rises to))))
      (λ e. rw (noted_is, e) before) (λ e. rw (noted_is, e) before) (λ e. rw (noted_is, e) before)

  queued_still : (i : ℕ) → IsQueued (length base.labels.offsets) stages i → IsQueued (length base.labels.offsets) after i
  queued_still i q =
      record {
        stream_in = q.stream_in;
        lifted = ⊎_elim (λ (e : i ≡ to). rw (e, stands) tt) (λ (e : i ≢ to). rw (stands_other i e) q.lifted) (cases_eq i to);
      }

  queued_is : All (IsQueued (length base.labels.offsets) after) next.queue.items
  queued_is =
      let before : All (IsQueued (length base.labels.offsets) after) wave.queue.items = All-weaker (IsQueued (length base.labels.offsets) stages)
      (IsQueued (length base.labels.offsets) after) queued_still wave.queue.items w.queued in
      let more : All (IsQueued (length base.labels.offsets) after) (wave.queue.items ++ to ∷ []) = All-push (IsQueued (length base.labels.offsets) after) wave.queue.items to before (record { stream_in = omega (arith, r.among.to_below, w.noted.offsets); lifted = rw stands tt }) in
      by_stage (stage_of stages to)
      (λ e. rw (queue, e) more) (λ e. rw (queue, e) before) (λ e. rw (queue, e) before) (λ e. rw (queue, e) more)

  pub IsWave-raised : IsWave base new after next
  IsWave-raised = record {
    among = w.among;
    met = w.met;
    noted = IsNoted-raised;
    room = omega (arith, w.room, length-set stages to Waiting);
    forest = IsForest-raised (all_arcs base) labels index value r;
    raised = λ releases old. KeepsRaised-raised (all_arcs base) labels index value r releases (w.raised releases old);
    rises = λ i. omega (arith, w.rises i, offset_rises (all_arcs base) labels index value r i);
    roots = λ i n. ⊎_elim (λ (e : i ≡ to). let h = rw (e, last_same (all_arcs base) labels index value r) at n in cc)
        (λ (e : i ≢ to). offset_other (all_arcs base) labels index value r i e ∙ w.roots i (sym (last_other (all_arcs base) labels index value r i e) ∙ n)) (cases_eq i to);
    fixed = AreFixed-raised;
    kept = λ i f. let g = still_fixed i f in offset_other (all_arcs base) labels index value r i (fixed_other i g) ∙ w.kept i g;
    lifted = λ i l. ⊎_elim (λ (e : i ≡ to). rw e now_noted) (λ (e : i ≢ to). still_noted i (w.lifted i (rw (stands_other i e) at l))) (cases_eq i to);
    each = each_is;
    queued = queued_is;
  }

  seen_still : (q : ℕ) → IsSeen (all_arcs base) labels stages q → IsSeen (all_arcs base) new after q
  seen_still q seen =
      let arc = arc_at (all_arcs base) q in
      ⊎_elim (λ (e : arc.from ≡ to). inr (rw e stands))
      (λ (e : arc.from ≢ to).
      ⊎_elim (λ (met : Holds labels.offsets arc). inl (omega (arith, ints, met, offset_other (all_arcs base) labels index value r arc.from e, offset_rises (all_arcs base) labels index value r arc.to)))
      (λ (waits : stage_of stages arc.from ≡ Waiting). inr (stands_other arc.from e ∙ waits)) seen) (cases_eq arc.from to)

  queued_more : (turn : ℕ) → turn ≤ length wave.queue.items → AreQueued stages (drop turn wave.queue.items) → AreQueued after (drop turn next.queue.items)
  queued_more turn l before i waits =
      let xs = wave.queue.items in
      let left : drop turn (xs ++ to ∷ []) ≡ drop turn xs ++ to ∷ [] = drop-append-le turn xs (to ∷ []) l in
      let has : Contains (drop turn xs) i → Contains (drop turn next.queue.items) i = λ c.
      by_stage (stage_of stages to)
      (λ e. rw (queue, e, left) (Contains-append_left (drop turn xs) (to ∷ []) i c))
      (λ e. rw (queue, e) c) (λ e. rw (queue, e) c)
      (λ e. rw (queue, e, left) (Contains-append_left (drop turn xs) (to ∷ []) i c)) in
      ⊎_elim
      (λ (e : i ≡ to).
      by_stage (stage_of stages to)
      (λ f. rw (e, queue, f, left) (Contains-push (drop turn xs) to))
      (λ f. absurd (loose f))
      (λ f. has (before i (rw e f)))
      (λ f. rw (e, queue, f, left) (Contains-push (drop turn xs) to)))
      (λ (e : i ≢ to). has (before i (sym (stands_other i e) ∙ waits))) (cases_eq i to)

  pub GoesOn-raised : GoesOn (all_arcs base) labels new stages after wave.queue.items next.queue.items
  GoesOn-raised =
      let one : (length wave.queue.items ≤ length next.queue.items) × (length next.queue.items ≤ length wave.queue.items + 1) =
      by_stage (stage_of stages to)
      (λ e. rw (queue, e, length_push wave.queue.items to) (omega arith, omega arith))
      (λ e. rw (queue, e) (omega arith, omega arith)) (λ e. rw (queue, e) (omega arith, omega arith))
      (λ e. rw (queue, e, length_push wave.queue.items to) (omega arith, omega arith)) in
      record {
        seen = λ q l seen. seen_still q seen;
        queued = queued_more;
        more = one.0;
        raises = omega (arith, one.1, sum-raised (all_arcs base) labels index value r);
      }

  -- the arc's first stream stands as before, and the arc is met
  pub first_kept : stage_of after (arc_at (all_arcs base) index).from ≡ stage_of stages (arc_at (all_arcs base) index).from
  first_kept = stands_other (arc_at (all_arcs base) index).from (unlike (all_arcs base) labels index value r)

  pub met_raised : Holds new.offsets (arc_at (all_arcs base) index)
  met_raised = omega (arith, ints, r.value_is, offset_same (all_arcs base) labels index value r, offset_other (all_arcs base) labels index value r (arc_at (all_arcs base) index).from (unlike (all_arcs base) labels index value r))

-- where nothing is raised, nothing changes
pub GoesOn-same : (arcs : List Arc) (labels : Labelling) (stages : List Stage) (queue : List ℕ) → GoesOn arcs labels labels stages stages queue queue
GoesOn-same arcs labels stages queue = record {
  seen = λ q l seen. seen;
  queued = λ turn l before. before;
  more = omega arith;
  raises = omega arith;
}

-- one raise after another
pub GoesOn-then : (arcs : List Arc) (first middle last : Labelling) (a b c : List Stage) (p q r : List ℕ) → GoesOn arcs first middle a b p q
    → GoesOn arcs middle last b c q r → GoesOn arcs first last a c p r
GoesOn-then arcs first middle last a b c p q r x y = record {
  seen = λ index l seen. y.seen index l (x.seen index l seen);
  queued = λ turn l before. y.queued turn (omega (arith, x.more)) (x.queued turn l before);
  more = omega (arith, x.more, y.more);
  raises = omega (arith, x.raises, y.raises);
}

-- an arc that asks to raise its last stream isn't met
pub unmet_asked : (base : Base) (labels : Labelling) (indexed : Indexed) (offset : ℕ) → IsIndexed (all_arcs base) indexed → IsAsked labels.offsets indexed.arc offset → pos (offset_of labels.offsets (arc_at (all_arcs base) indexed.index).to) <ℤ (pos (offset_of labels.offsets (arc_at (all_arcs base) indexed.index).from) +ℤ (arc_at (all_arcs base) indexed.index).weight)
unmet_asked base labels indexed offset p asked = rw p.arc (omega (arith, ints, asked.value, asked.higher))

-- it raises the stream, where that isn't fixed
pub Raises-asked : (base : Base) (labels : Labelling) (stages : List Stage) (wave : Wave) (indexed : Indexed) (offset : ℕ) → IsWave base labels stages wave → IsIndexed (all_arcs base) indexed → IsAsked labels.offsets indexed.arc offset → (stage_of stages (arc_at (all_arcs base) indexed.index).to ≡ Fixed → ⊥) → Raises (all_arcs base) labels indexed.index offset
Raises-asked base labels stages wave indexed offset w p asked loose = record {
  forest = w.forest;
  among = rw w.noted.offsets (w.among indexed.index (record { from = 0; to = 0; weight = pos 0 }) p.index_in);
  index_in = p.index_in;
  value_is = rw p.arc asked.value;
  higher = rw p.arc asked.higher;
  aside = aside base labels stages wave w indexed.index p.index_in (unmet_asked base labels indexed offset p asked) loose;
}
