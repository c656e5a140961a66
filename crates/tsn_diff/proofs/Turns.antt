-- A wave from its start over each stream's turn to its end.
use Rattle.std.proofs.Common.{◌≡◌, ◌≢◌, ℕ, zero, suc, ◌+◌, ◌-◌, ◌*◌, ◌<◌, ◌≤◌, pos, List, [], ◌∷◌, length, set, drop, sum, All, Contains, refl, sym, ap, ◌∙◌, subst, inl, inr, ⊎_elim, arith, length-append, length-set, get_or, get_or-set_other, get_or-set_same, take_all}
use Rattle.std.proofs.lemmas.Bool.{cases_eq, cases_lt}
use Rattle.std.proofs.lemmas.List.{drop_all, drop_more, take_at}
use Rattle.std.proofs.lemmas.List.Elements.{All-nil, All-push, All-take, All-weaker, All-from_get_or}
use Rattle.tsn_model.specs.declared.Arc.{Arc}
use Rattle.tsn_model.specs.Schedule.{offset_of}
use Rattle.tsn_model.specs.Arcs.{arc_at, Holds}
use Rattle.tsn_diff.specs.declared.listing.Listing.{Listing}
use Rattle.tsn_diff.specs.declared.trail.Former.{Former}
use Rattle.tsn_diff.specs.declared.spread.Stage.{Stage}
use Rattle.tsn_diff.specs.declared.spread.Stage.TheVariants.{Calm, Fixed, Waiting, Settled}
use Rattle.tsn_diff.specs.declared.spread.Wave.{Wave}
use Rattle.tsn_diff.specs.Forest.{Labelling}
use Rattle.tsn_diff.specs.Limits.{IsArcAmong}
use Rattle.tsn_diff.specs.Listing.{IsListing}
use Rattle.tsn_diff.specs.Spread.{Base, all_arcs, noted_by, stage_of, IsIndexed, IsLifted, AreFixed, IsNoted, IsQueued, IsWave, IsTurn, IsStart, IsWide, MeetsFrom, AreQueued, IsSeen, GoesOn}
use Rattle.tsn_diff.proofs.Solutions.{IsForest-more}
use Rattle.tsn_diff.proofs.Spreads.{arc_at-new, met_before}

module _ (base : Base) (labels : Labelling) (wave : Wave) (listing : Listing) (arc : Arc) (start : IsStart base labels wave.trail listing arc) where
  -- all arcs join the streams
  pub start_among : All (IsArcAmong (length labels.offsets)) base.arcs
  start_among =
      let P = IsArcAmong (length base.labels.offsets) in
      let before : All P base.arcs = rw (← take_at base.arcs (base.arc ∷ []) (length base.arcs) refl) (All-take P (length base.arcs) (all_arcs base) start.among) in
      rw start.labels_are at before

  -- the new arc begins at one of the streams
  pub stream_in : arc.from < length labels.last
  stream_in =
      let here = start.among (length base.arcs) (record { from = 0; to = 0; weight = pos 0 }) (omega (arith, length-append base.arcs (base.arc ∷ []))) in
      let arc_is = arc_at-new base (length base.arcs) (omega (arith, length-append base.arcs (base.arc ∷ []))) (omega arith) ∙ start.arc_is in
      let below = (rw arc_is at here).from_below in
      omega (arith, below, start.forest.count, ap (λ (l : Labelling). length l.last) start.labels_are)

  none_noted : noted_by base wave.trail ≡ []
  none_noted = drop_all (length base.formers) wave.trail.formers.items (rw start.formers_are (omega arith))

  IsNoted-start : IsNoted base labels wave.trail
  IsNoted-start = record {
    streams = start.noted;
    before = rw (← start.formers_are) (take_all (length base.formers) base.formers (omega arith));
    back = rw none_noted (sym start.labels_are);
    offsets = ap (λ (l : Labelling). length l.offsets) (sym start.labels_are);
    last = rw (← start.labels_are) start.forest.count;
  }

  pub IsWave-start : (stages : List Stage) → length base.labels.offsets ≤ length stages → AreFixed labels.last stages arc.from
      → ((stream : ℕ) → IsLifted (stage_of stages stream) → ⊥) → wave.queue.items ≡ [] → IsWave base labels stages wave
  IsWave-start stages room fixed calm queue = record {
    among = start.among;
    met = start.met;
    noted = IsNoted-start;
    room = room;
    forest = rw (← start.labels_are) (IsForest-more base.arcs base.labels base.arc start.forest);
    raised = rw start.labels_are (λ releases old. old);
    rises = λ i. rw start.labels_are (omega arith);
    roots = λ i n. rw start.labels_are refl;
    fixed = rw start.arc_is fixed;
    kept = λ i f. rw start.labels_are refl;
    lifted = λ i l. absurd (calm i l);
    each = rw none_noted (All-nil (λ (f : Former). offset_of base.labels.offsets f.stream < offset_of labels.offsets f.stream));
    queued = rw queue (All-nil (IsQueued (length base.labels.offsets) stages));
  }

  -- where the new arc is met at once, the wave ends
  pub IsWide-start : Holds labels.offsets arc → IsWide base labels wave.trail
  IsWide-start met = record {
    forest = rw (← start.labels_are) (IsForest-more base.arcs base.labels base.arc start.forest);
    raised = rw start.labels_are (λ releases old. old);
    met = All-push (Holds labels.offsets) base.arcs base.arc (rw start.labels_are at start.met) (rw start.arc_is met);
    each = rw none_noted (All-nil (λ (f : Former). offset_of base.labels.offsets f.stream < offset_of labels.offsets f.stream));
  }

  -- the new arc has the index after the others
  pub IsIndexed-new : (index : ℕ) → index ≡ length listing.marks.items → IsIndexed (all_arcs base) (record { index = index; arc = arc })
  IsIndexed-new index e =
      let at : index ≡ length base.arcs = e ∙ start.listed.marks in
      let in_all : index < length (all_arcs base) = omega (arith, at, length-append base.arcs (base.arc ∷ [])) in
      record { index_in = in_all; arc = arc_at-new base index in_all (omega (arith, at)) ∙ start.arc_is }

-- once the new arc is met, every arc is seen
pub seen_first : (base : Base) (labels new : Labelling) (stages after : List Stage) (wave : Wave) (queue : List ℕ) → IsWave base labels stages wave
    → base.labels ≡ labels → GoesOn (all_arcs base) labels new stages after wave.queue.items queue → Holds new.offsets base.arc
    → (index : ℕ) → index < length (all_arcs base) → IsSeen (all_arcs base) new after index
seen_first base labels new stages after wave queue w same g met index l =
    ⊎_elim
    (λ (old : index < length base.arcs). g.seen index l (inl (rw (← same) (met_before base labels stages wave w index old))))
    (λ (at : length base.arcs ≤ index). inl (rw (arc_at-new base index l at) met))
    (cases_lt index (length base.arcs))

-- what is in a list and isn't its first element is in the rest
contains_rest : (x i : ℕ) (xs : List ℕ) → x ≢ i → Contains (x ∷ xs) i → Contains xs i
contains_rest x i xs unlike (zero, l, e) = absurd (unlike e)
contains_rest x i xs unlike (suc k, l, e) = (k, omega (arith, l), e)

module _ (base : Base) (labels : Labelling) (stages : List Stage) (wave : Wave) (turn stream : ℕ) (w : IsWave base labels stages wave) (turn_in : turn < length wave.queue.items) (is : stream ≡ get_or wave.queue.items turn stream) where
  abbrev after : List Stage
  after = set stages stream Settled

  index : IsQueued (length base.labels.offsets) stages stream
  index = subst (λ (s : ℕ). IsQueued (length base.labels.offsets) stages s) (sym is) (w.queued turn stream turn_in)

  stands : stage_of after stream ≡ Settled
  stands = get_or-set_same stages stream Settled Calm (omega (arith, index.stream_in, w.room))

  stands_other : (i : ℕ) → i ≢ stream → stage_of after i ≡ stage_of stages i
  stands_other i e = get_or-set_other stages stream i Settled Calm e

  fixed_other : (i : ℕ) → stage_of stages i ≡ Fixed → i ≢ stream
  fixed_other i f e = rw (← e, f) at index.lifted

  still_fixed : (i : ℕ) → stage_of after i ≡ Fixed → stage_of stages i ≡ Fixed
  still_fixed i f =
      ⊎_elim (λ (e : i ≡ stream). let g = rw (e, stands) at f in cc) (λ (e : i ≢ stream). sym (stands_other i e) ∙ f) (cases_eq i stream)

  now_fixed : (i : ℕ) → stage_of stages i ≡ Fixed → stage_of after i ≡ Fixed
  now_fixed i f = stands_other i (fixed_other i f) ∙ f

  queued_still : (i : ℕ) → IsQueued (length base.labels.offsets) stages i → IsQueued (length base.labels.offsets) after i
  queued_still i q =
      record {
        stream_in = q.stream_in;
        lifted = ⊎_elim (λ (e : i ≡ stream). rw (e, stands) tt) (λ (e : i ≢ stream). rw (stands_other i e) q.lifted) (cases_eq i stream);
      }

  pub IsTurn-settled : (listing : Listing) → IsListing (length base.labels.offsets) base.arcs listing → IsTurn base labels after wave listing stream
  IsTurn-settled listing listed = record {
    moves = record {
      among = w.among;
      met = w.met;
      noted = w.noted;
      room = omega (arith, w.room, length-set stages stream Settled);
      forest = w.forest;
      raised = w.raised;
      rises = w.rises;
      roots = w.roots;
      fixed = record {
        begins = now_fixed base.arc.from w.fixed.begins;
        closed = λ i s f h. now_fixed s.from (w.fixed.closed i s (still_fixed i f) h);
        way = λ i f. w.fixed.way i (still_fixed i f);
      };
      kept = λ i f. w.kept i (still_fixed i f);
      lifted = λ i l. ⊎_elim (λ (e : i ≡ stream). w.lifted i (rw e index.lifted)) (λ (e : i ≢ stream). w.lifted i (rw (stands_other i e) at l)) (cases_eq i stream);
      each = w.each;
      queued = All-weaker (IsQueued (length base.labels.offsets) stages) (IsQueued (length base.labels.offsets) after) queued_still wave.queue.items w.queued;
    };
    listed = listed;
    stream_in = index.stream_in;
    settled = stands;
  }

  module _ (new : Labelling) (later : List Stage) (queue : List ℕ) (g : GoesOn (all_arcs base) labels new after later wave.queue.items queue) where
    pub seen_then : MeetsFrom (all_arcs base) new.offsets stream → ((q : ℕ) → q < length (all_arcs base) → IsSeen (all_arcs base) labels stages q)
        → (q : ℕ) → q < length (all_arcs base) → IsSeen (all_arcs base) new later q
    seen_then met seen q l =
        let arc = arc_at (all_arcs base) q in
        ⊎_elim (λ (e : arc.from ≡ stream). inl (met q l e))
        (λ (e : arc.from ≢ stream).
        g.seen q l
        (⊎_elim (λ (m : Holds labels.offsets arc). inl m) (λ (waits : stage_of stages arc.from ≡ Waiting). inr (stands_other arc.from e ∙ waits)) (seen q l))) (cases_eq arc.from stream)

    pub queued_then : AreQueued stages (drop turn wave.queue.items) → AreQueued later (drop (turn + 1) queue)
    queued_then queued =
        g.queued (turn + 1) (omega (arith, turn_in))
        (λ i waits.
        let unlike : stream ≢ i = λ e. let g = rw (← e, stands) at waits in cc in
        let among = queued i (sym (stands_other i (λ e. unlike (sym e))) ∙ waits) in
        contains_rest stream i (drop (turn + 1) wave.queue.items) unlike (subst (λ (xs : List ℕ). Contains xs i) (drop_more wave.queue.items turn stream turn_in ∙ ap (λ (s : ℕ). s ∷ drop (turn + 1) wave.queue.items) (sym is)) among))

    pub turn_smaller : length new.offsets ≡ length labels.offsets → sum new.offsets ≤ length new.offsets * 154670000000 → (length new.offsets * 154670000000 - sum new.offsets) + (length queue - (turn + 1)) < (length labels.offsets * 154670000000 - sum labels.offsets) + (length wave.queue.items - turn)
    turn_smaller same small = omega (arith, g.raises, g.more, same, small, turn_in)

-- where no stream waits any more, every arc is met
pub IsWide-end : (base : Base) (labels : Labelling) (stages : List Stage) (wave : Wave) (turn : ℕ) → IsWave base labels stages wave → length wave.queue.items ≤ turn → AreQueued stages (drop turn wave.queue.items) → ((q : ℕ) → q < length (all_arcs base) → IsSeen (all_arcs base) labels stages q) → IsWide base labels wave.trail
IsWide-end base labels stages wave turn w ended queued seen = record {
  forest = w.forest;
  raised = w.raised;
  met = All-from_get_or (Holds labels.offsets) (all_arcs base) (record { from = 0; to = 0; weight = pos 0 })
      (λ q l.
      ⊎_elim (λ (m : Holds labels.offsets (arc_at (all_arcs base) q)). m)
      (λ (waits : stage_of stages (arc_at (all_arcs base) q).from ≡ Waiting).
      let among = rw (drop_all turn wave.queue.items ended) at (queued (arc_at (all_arcs base) q).from waits) in
      absurd (omega (arith, among.1))) (seen q l));
  each = w.each;
}
