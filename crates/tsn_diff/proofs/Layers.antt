-- What a stack keeps of its arcs, with one more and with one less.
use Rattle.std.proofs.Common.{◌≡◌, ℕ, ◌+◌, ◌-◌, ◌<◌, ◌≤◌, List, [], ◌∷◌, ◌++◌, length, take, drop, slice_index, slice_index_or, All, refl, sym, ap, ◌∙◌, ⊎_elim, arith, length-take, get_or-take}
use Rattle.std.proofs.lemmas.Bool.{cases_lt}
use Rattle.std.proofs.lemmas.List.{drop-append-le, take-append-drop, take-append-le, take-take, get_or_append_left, get_or_push, length_push, take_at, take_all, get_or_past}
use Rattle.std.proofs.lemmas.Grind.{get_or_default_zero}
use Rattle.std.proofs.lemmas.List.Elements.{All-drop, All-map}
use Rattle.tsn_model.specs.declared.Arc.{Arc}
use Rattle.tsn_diff.specs.declared.trail.Former.{Former}
use Rattle.tsn_diff.specs.declared.trail.Trail.{Trail}
use Rattle.tsn_diff.specs.Forest.{Labelling, Settles}
use Rattle.tsn_model.specs.Schedule.{offset_of}
use Rattle.tsn_diff.specs.Offsets.{IsLeast}
use Rattle.tsn_diff.specs.Trail.{IsTrail, put_back_all}
use Rattle.tsn_diff.specs.Stack.{IsLayered, RiseAt, last_mark, mark_at, noted_for}
use Rattle.tsn_diff.proofs.Solutions.{IsLeast-settled}
use Rattle.tsn_diff.proofs.Trails.{put_back_all-append}

-- least offsets are one list
pub IsLeast-same : (releases : List ℕ) (arcs : List Arc) (a b : List ℕ) → IsLeast releases arcs a → IsLeast releases arcs b → (stream : ℕ) → offset_of a stream ≡ offset_of b stream
IsLeast-same releases arcs a b p q stream =
    ⊎_elim (λ (l : stream < length releases). omega (arith, p.least b q.meets stream l, q.least a p.meets stream l))
    (λ (m : length releases ≤ stream). get_or_past a stream 0 (omega (arith, p.meets.count)) ∙ sym (get_or_past b stream 0 (omega (arith, q.meets.count)))) (cases_lt stream (length releases))

-- so it doesn't matter by which lists a rise is told
pub RiseAt-same : (releases : List ℕ) (before after : List Arc) (a b old new : List ℕ) → IsLeast releases before a → IsLeast releases after b → IsLeast releases before old → IsLeast releases after new → (formers : List Former) → RiseAt formers a b → RiseAt formers old new
RiseAt-same releases before after a b old new pa pb pold pnew formers each =
    λ i d l.
    let here = each i d l in
    let f = slice_index_or formers i d in
    omega (arith, here, IsLeast-same releases before a old pa pold f.stream, IsLeast-same releases after b new pb pnew f.stream)

-- a mark within the list doesn't hang on what stands for one past it
get_or_any : (xs : List ℕ) (i a b : ℕ) → i < length xs → slice_index_or xs i a ≡ slice_index_or xs i b
get_or_any xs i a b l = get_or_default_zero xs i a l ∙ sym (get_or_default_zero xs i b l)

-- no mark is past what was noted
mark_at_in : {releases : List ℕ} {labels : Labelling} {arcs : List Arc} {marks : List ℕ} {formers : List Former} → IsLayered releases labels arcs marks formers → (k : ℕ) → mark_at marks formers k ≤ length formers
mark_at_in {marks = marks} {formers = formers} s k =
    ⊎_elim (λ (l : k < length marks). omega (arith, s.marks_in k l, get_or_default_zero marks k (length formers) l))
    (λ (m : length marks ≤ k). omega (arith, get_or_past marks k (length formers) m)) (cases_lt k (length marks))

module _ (releases : List ℕ) (labels : Labelling) (arcs : List Arc) (marks : List ℕ) (formers : List Former) (s : IsLayered releases labels arcs marks formers) where
  module _ (arc : Arc) (new : Labelling) (more : List Former) (before : take (length formers) more ≡ formers) (back : put_back_all (drop (length formers) more) new ≡ labels) where
    abbrev mark : ℕ
    mark = length formers

    old_mark : (k : ℕ) → k < length marks → slice_index (marks ++ mark ∷ []) k ≡ slice_index marks k
    old_mark k l = get_or_append_left marks (mark ∷ []) 0 k l

    new_mark : slice_index (marks ++ mark ∷ []) (length marks) ≡ mark
    new_mark = get_or_push marks mark 0 (length marks) refl

    long : mark ≤ length more
    long = omega (arith, ap length before, length-take mark more)

    split : more ≡ formers ++ drop mark more
    split = sym (take-append-drop mark more) ∙ ap (λ (xs : List Former). xs ++ drop mark more) before

    is_last : (k : ℕ) → k < length (marks ++ mark ∷ []) → length marks ≤ k → k ≡ length marks
    is_last k l m = omega (arith, length_push marks mark)

    back_from : (k : ℕ) → k < length marks → put_back_all (drop (slice_index marks k) more) new ≡ put_back_all (drop (slice_index marks k) formers) labels
    back_from k l =
        ap (λ (xs : List Former). put_back_all (drop (slice_index marks k) xs) new) split ∙ ap (λ (xs : List Former). put_back_all xs new) (drop-append-le (slice_index marks k) formers (drop mark more) (s.marks_in k l))
        ∙ put_back_all-append (drop (slice_index marks k) formers) (drop mark more) new ∙ ap (put_back_all (drop (slice_index marks k) formers)) back

    -- the mark after that of an arc that was there
    next_mark : (k : ℕ) → k < length marks → mark_at (marks ++ mark ∷ []) more (k + 1) ≡ mark_at marks formers (k + 1)
    next_mark k l =
        ⊎_elim (λ (old : k + 1 < length marks). get_or_append_left marks (mark ∷ []) (length more) (k + 1) old ∙ get_or_any marks (k + 1) (length more) mark old)
        (λ (m : length marks ≤ k + 1). get_or_push marks mark (length more) (k + 1) (omega arith) ∙ sym (get_or_past marks (k + 1) mark m)) (cases_lt (k + 1) (length marks))

    same_noted : (k : ℕ) → k < length marks → noted_for (marks ++ mark ∷ []) more k ≡ noted_for marks formers k
    same_noted k l =
        rw (old_mark k l, next_mark k l)
        (ap (λ (xs : List Former). drop (slice_index marks k) xs)
        (ap (λ (xs : List Former). take (mark_at marks formers (k + 1)) xs) split ∙ take-append-le (mark_at marks formers (k + 1)) formers (drop mark more) (mark_at_in s (k + 1))))

    last_noted : noted_for (marks ++ mark ∷ []) more (length marks) ≡ drop mark more
    last_noted =
        rw new_mark
        (ap (λ (xs : List Former). drop mark xs) (take_all (mark_at (marks ++ mark ∷ []) more (length marks + 1)) more (omega (arith, get_or_past (marks ++ mark ∷ []) (length marks + 1) (length more) (omega (arith, length_push marks mark))))))

    still_first : mark_at (marks ++ mark ∷ []) more 0 ≡ 0
    still_first =
        ⊎_elim (λ (old : 0 < length marks). get_or_append_left marks (mark ∷ []) (length more) 0 old ∙ get_or_any marks 0 (length more) mark old ∙ s.first)
        (λ (m : length marks ≤ 0). get_or_push marks mark (length more) 0 (omega arith) ∙ sym (get_or_past marks 0 mark m) ∙ s.first) (cases_lt 0 (length marks))

    pub IsLayered-push : Settles releases (arcs ++ arc ∷ []) new → RiseAt (drop mark more) labels.offsets new.offsets → IsLayered releases new (arcs ++ arc ∷ []) (marks ++ mark ∷ []) more
    IsLayered-push settles each = record {
      settles = settles;
      count = omega (arith, length_push marks mark, length_push arcs arc, s.count);
      marks_in = λ k l.
          ⊎_elim (λ (old : k < length marks). rw (old_mark k old) (omega (arith, s.marks_in k old, long)))
          (λ (m : length marks ≤ k). rw (is_last k l m, new_mark) long) (cases_lt k (length marks));
      rising = λ j k m l.
          ⊎_elim (λ (old : k < length marks). rw (old_mark k old, old_mark j (omega arith)) (s.rising j k m old))
          (λ (n : length marks ≤ k).
          rw (is_last k l n, new_mark)
          (⊎_elim (λ (old : j < length marks). rw (old_mark j old) (s.marks_in j old))
          (λ (o : length marks ≤ j). rw (is_last j (omega arith) o, new_mark) (omega arith)) (cases_lt j (length marks)))) (cases_lt k (length marks));
      below = λ k l.
          ⊎_elim
          (λ (old : k < length marks).
          rw (old_mark k old, take-append-le k arcs (arc ∷ []) (omega (arith, s.count)), back_from k old) (s.below k old))
          (λ (m : length marks ≤ k).
          rw (is_last k l m, new_mark, take_at arcs (arc ∷ []) (length marks) (sym s.count), back) s.settles) (cases_lt k (length marks));
      first = still_first;
      rises = λ k l a b p q.
          ⊎_elim
          (λ (old : k < length marks).
          rw (same_noted k old)
          (s.rises k old a b (rw (take-append-le k arcs (arc ∷ []) (omega (arith, s.count))) at p) (rw (take-append-le (k + 1) arcs (arc ∷ []) (omega (arith, s.count))) at q)))
          (λ (m : length marks ≤ k).
          let last = is_last k l m in
          let before = rw (last, take_at arcs (arc ∷ []) (length marks) (sym s.count)) at p in
          let after = rw (take_all (k + 1) (arcs ++ arc ∷ []) (omega (arith, s.count, length_push arcs arc))) at q in
          rw (last, last_noted) (RiseAt-same releases arcs (arcs ++ arc ∷ []) labels.offsets new.offsets a b (IsLeast-settled releases arcs labels s.settles) (IsLeast-settled releases (arcs ++ arc ∷ []) new settles) before after (drop mark more) each)) (cases_lt k (length marks));
    }

  module _ (some : 0 < length arcs) where
    abbrev last : ℕ
    last = length marks - 1

    last_in : last < length marks
    last_in = omega (arith, s.count)

    fewer : length (take (last_mark marks) formers) ≡ last_mark marks
    fewer = omega (arith, length-take (last_mark marks) formers, s.marks_in last last_in)

    kept_mark : (k : ℕ) → k < last → slice_index (take last marks) k ≡ slice_index marks k
    kept_mark k l = get_or-take last marks k 0 l

    kept_in : (k : ℕ) → k < length (take last marks) → k < last
    kept_in k l = omega (arith, length-take last marks)

    still_back : (k : ℕ) → k < last → put_back_all (drop (slice_index marks k) (take (last_mark marks) formers)) (put_back_all (drop (last_mark marks) formers) labels) ≡ put_back_all (drop (slice_index marks k) formers) labels
    still_back k l =
        let m = last_mark marks in
        sym (put_back_all-append (drop (slice_index marks k) (take m formers)) (drop m formers) labels)
        ∙ ap (λ (xs : List Former). put_back_all xs labels) (sym (drop-append-le (slice_index marks k) (take m formers) (drop m formers) (omega (arith, fewer, s.rising k last (omega arith) last_in))))
        ∙ ap (λ (xs : List Former). put_back_all (drop (slice_index marks k) xs) labels) (take-append-drop m formers)

    next_kept : (k : ℕ) → k < last → mark_at (take last marks) (take (last_mark marks) formers) (k + 1) ≡ mark_at marks formers (k + 1)
    next_kept k l =
        ⊎_elim (λ (kept : k + 1 < last). get_or-take last marks (k + 1) _ kept ∙ get_or_any marks (k + 1) _ (length formers) (omega arith))
        (λ (m : last ≤ k + 1).
        let same : k + 1 ≡ last = omega arith in
        rw same (get_or_past (take last marks) last _ (omega (arith, length-take last marks)) ∙ fewer ∙ get_or_any marks last 0 (length formers) last_in)) (cases_lt (k + 1) last)

    kept_noted : (k : ℕ) → k < last → noted_for (take last marks) (take (last_mark marks) formers) k ≡ noted_for marks formers k
    kept_noted k l =
        let below : mark_at marks formers (k + 1) ≤ last_mark marks = omega (arith, get_or_any marks (k + 1) (length formers) 0 (omega arith), s.rising (k + 1) last (omega arith) last_in) in
        rw (kept_mark k l, next_kept k l) (ap (λ (xs : List Former). drop (slice_index marks k) xs) (take-take (mark_at marks formers (k + 1)) (last_mark marks) formers below))

    kept_first : mark_at (take last marks) (take (last_mark marks) formers) 0 ≡ 0
    kept_first =
        ⊎_elim (λ (kept : 0 < last). get_or-take last marks 0 _ kept ∙ get_or_any marks 0 _ (length formers) (omega arith) ∙ s.first)
        (λ (m : last ≤ 0).
        let same : last ≡ 0 = omega arith in
        get_or_past (take last marks) 0 _ (omega (arith, length-take last marks)) ∙ fewer ∙ rw same (get_or_any marks 0 0 (length formers) (omega (arith, last_in)) ∙ s.first)) (cases_lt 0 last)

    pub IsLayered-pop : IsLayered releases (put_back_all (drop (last_mark marks) formers) labels) (take (length arcs - 1) arcs) (take (length marks - 1) marks) (take (last_mark marks) formers)
    IsLayered-pop = record {
      settles = rw (← s.count) (s.below last last_in);
      count = omega (arith, length-take last marks, length-take (length arcs - 1) arcs, s.count);
      marks_in = λ k l. rw (kept_mark k (kept_in k l), fewer) (s.rising k last (omega (arith, kept_in k l)) last_in);
      rising = λ j k m l. rw (kept_mark k (kept_in k l), kept_mark j (omega (arith, kept_in k l))) (s.rising j k m (omega (arith, kept_in k l)));
      below = λ k l.
          let in_last = kept_in k l in
          rw (kept_mark k in_last, still_back k in_last, take-take k (length arcs - 1) arcs (omega (arith, in_last, s.count))) (s.below k (omega (arith, in_last)));
      first = kept_first;
      rises = λ k l a b p q.
          let in_last = kept_in k l in
          rw (kept_noted k in_last)
          (s.rises k (omega arith) a b (rw (take-take k (length arcs - 1) arcs (omega (arith, in_last, s.count))) at p) (rw (take-take (k + 1) (length arcs - 1) arcs (omega (arith, in_last, s.count))) at q));
    }

-- the streams noted for the last arc are those from its mark on
pub noted_last : (marks : List ℕ) (formers : List Former) → 0 < length marks → noted_for marks formers (length marks - 1) ≡ drop (last_mark marks) formers
noted_last marks formers some =
    ap (λ (xs : List Former). drop (last_mark marks) xs) (take_all (mark_at marks formers (length marks - 1 + 1)) formers (omega (arith, get_or_past marks (length marks - 1 + 1) (length formers) (omega arith))))

-- every noted stream is one of the streams
pub noted_below : (n mark : ℕ) (trail : Trail) → IsTrail n trail → All (λ (s : ℕ). s < n) (drop mark trail.streams.items)
noted_below n mark trail t =
    All-drop (λ (s : ℕ). s < n) mark trail.streams.items (rw t.streams (All-map (λ (s : ℕ). s < n) (λ (f : Former). f.stream) trail.formers.items t.below))
