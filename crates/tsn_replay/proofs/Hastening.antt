-- Before any start the items get their turns one after another.
use Rattle.std.proofs.Common.{◌≡◌, ℕ, ◌+◌, ◌-◌, ◌*◌, ◌≤◌, ◌<◌, List, length, slice_set, refl, sym, ap, ◌∙◌, subst, arith, inl, inr}
use Rattle.std.proofs.lemmas.Bool.{cases_eq}
use Rattle.std.proofs.lemmas.List.{length-set}
use Rattle.tsn_model.specs.Network.{Network, hop_count}
use Rattle.tsn_model.specs.Timing.{shifts}
use Rattle.tsn_model.specs.Schedule.{offset_of}
use Rattle.tsn_model.specs.Bridge.{Passage, IsPassage, IsReady}
use Rattle.tsn_model.proofs.Hops.{passage_cases}
use Rattle.tsn_model.proofs.Lists.{Contains-nil}
use Rattle.tsn_replay.specs.declared.queue.Frame.{Frame}
use Rattle.tsn_replay.specs.declared.queue.Stage.TheVariants.{Queued}
use Rattle.tsn_replay.specs.Queue.{AreInLine, IsOneVisit, first_stage, frame_in, passage_of}
use Rattle.tsn_replay.specs.Frames.{first_visit}
use Rattle.tsn_replay.specs.Feeding.{no_start}
use Rattle.tsn_replay.specs.Progress.{Turn, Plan, IsTurn, IsFrame, IsTracked, HasTurn, AreFirst, AreBegun, with_turn, turn_of}
use Rattle.tsn_replay.proofs.Advances.{frame_set_same, frame_set_other}
use Rattle.tsn_replay.proofs.Blocks.{between}
use Rattle.tsn_replay.proofs.Moved.{same_visit}
use Rattle.tsn_replay.proofs.PassageStarts.{pick, pick_yes, pick_no}

-- items of one hop are at first where each of them is
pub one_stage : (network : Network) (offsets : List ℕ) (number : ℕ) (frames : List Frame) → AreFirst network offsets number frames
    → (a b : ℕ) → a < length frames → b < length frames
    → IsOneVisit (frame_in frames a) (frame_in frames b) → (frame_in frames a).stage ≡ (frame_in frames b).stage
one_stage network offsets number frames first a b a_below b_below one =
    first.stages a a_below ∙ ((λ i. first_stage network (one.0 i) (one.1 i)) ∙ sym (first.stages b b_below))

-- what is read of the items, and computed from it
pub first_sooner : (network : Network) (offsets : List ℕ) (cycles : ℕ) (read frames : List Frame) → read ≡ frames
    → AreInLine network cycles frames → (number : ℕ) → AreFirst network offsets number frames → number < length frames
    → (frame : Frame) → frame ≡ frame_in frames number
    → (before : ℕ) → number ≡ before + 1 → IsOneVisit (frame_in read before) frame → (frame_in read before).stage ≡ Queued
    → (frame_in read before).ready < frame.ready
first_sooner network offsets cycles read frames read_is line number first below frame frame_is =
    subst (λ fs. (before : ℕ) → number ≡ before + 1 → IsOneVisit (frame_in fs before) frame
    → (frame_in fs before).stage ≡ Queued → (frame_in fs before).ready < frame.ready) (sym read_is)
    (subst (λ (f : Frame). (before : ℕ) → number ≡ before + 1 → IsOneVisit (frame_in frames before) f
    → (frame_in frames before).stage ≡ Queued → (frame_in frames before).ready < f.ready) (sym frame_is)
    (λ before next one queued.
    line.readies before number (omega arith) below one queued
    (sym (one_stage network offsets number frames first before number (omega arith) below one) ∙ queued)))

pub first_has : (network : Network) (given slack number : ℕ) (read frames : List Frame) (frame new : Frame) → given ≡ slack → read ≡ frames
    → frame ≡ frame_in frames number
    → HasTurn network given read number frame 0 new → HasTurn network slack frames number (frame_in frames number) 0 new
first_has network given slack number read frames frame new slack_is read_is frame_is has =
    subst (λ f. HasTurn network slack frames number f 0 new) frame_is (subst (λ fs. HasTurn network slack fs number frame 0 new) read_is
    (subst (λ n. HasTurn network n read number frame 0 new) slack_is has))

-- the turns with one of a passage
one_turn : (Passage → Turn) → Passage → Turn → Passage → Turn
one_turn turn p new q = pick (passage_cases p q) new (turn q)

turn_same : (turn : Passage → Turn) (p : Passage) (new : Turn) (q : Passage) → p ≡ q → one_turn turn p new q ≡ new
unfolding one_turn
turn_same turn p new q is = pick_yes (passage_cases p q) new (turn q) is

turn_other : (turn : Passage → Turn) (p : Passage) (new : Turn) (q : Passage) → (p ≡ q → ⊥) → one_turn turn p new q ≡ turn q
unfolding one_turn
turn_other turn p new q differ = pick_no (passage_cases p q) new (turn q) differ

module _ (network : Network) (offsets : List ℕ) (slack cycles number : ℕ) (frames : List Frame)
    (begun : AreBegun network offsets slack cycles no_start frames) (line : AreInLine network cycles frames)
    (first : AreFirst network offsets number frames) (below : number < length frames) (new : Frame)
    (has : HasTurn network slack frames number (frame_in frames number) 0 new) where
  abbrev frame : Frame
  frame = frame_in frames number

  abbrev after : List Frame
  after = slice_set frames number new

  abbrev turns : Passage → Turn
  turns = one_turn begun.turn (passage_of frame) (turn_of new)

  abbrev plan : Plan
  plan = record { offsets = offsets; slack = slack; turn = turns }

  here : frame_in after number ≡ new
  here = frame_set_same frames number new below

  here_at : (n : ℕ) → number ≡ n → frame_in after n ≡ with_turn (frame_in frames n) (turn_of new)
  here_at n same = ap (frame_in after) (sym same) ∙ (here ∙ (has.is ∙ ap (λ k. with_turn (frame_in frames k) (turn_of new)) same))

  elsewhere : (n : ℕ) → (number ≡ n → ⊥) → frame_in after n ≡ frame_in frames n
  elsewhere n differ = frame_set_other frames number n new differ

  long : length after ≡ length frames
  long = length-set frames number new

  -- an item keeps what it is of, and where it is
  stays : (n : ℕ) → passage_of (frame_in after n) ≡ passage_of (frame_in frames n)
  unfolding passage_of
  stays n = elim (cases_eq number n) [ inl same ↦ ap passage_of (here_at n same) | inr differ ↦ ap passage_of (elsewhere n differ) ]

  stage_stays : (n : ℕ) → (frame_in after n).stage ≡ (frame_in frames n).stage
  stage_stays n = elim (cases_eq number n) [
    | inl same ↦ ap (λ (f : Frame). f.stage) (here_at n same)
    | inr differ ↦
        ap (λ (f : Frame). f.stage) (elsewhere n differ)
  ]

  visits_stay : (a b : ℕ) → IsOneVisit (frame_in after a) (frame_in after b) → IsOneVisit (frame_in frames a) (frame_in frames b)
  visits_stay a b one =
      let of_a = same_visit (frame_in after a) (frame_in frames a) (stays a) in
      let of_b = same_visit (frame_in after b) (frame_in frames b) (stays b) in
      (sym of_a.0 ∙ (one.0 ∙ of_b.0), sym of_a.1 ∙ (one.1 ∙ of_b.1))

  -- ---- tracked

  is_here : IsFrame network plan cycles no_start (with_turn frame (turn_of new))
  unfolding passage_of
  is_here =
      let old = begun.tracked.each number below in
      record {
        passage = old.passage;
        gone = old.gone;
        unstarted = old.unstarted;
        ready = old.ready;
        turn = λ waits. turn_same begun.turn (passage_of frame) (turn_of new) _ refl;
        coming = old.coming;
      }

  is_elsewhere : (n : ℕ) → n < length frames → (number ≡ n → ⊥) → IsFrame network plan cycles no_start (frame_in frames n)
  is_elsewhere n inside differ =
      let old = begun.tracked.each n inside in
      record {
        passage = old.passage;
        gone = old.gone;
        unstarted = old.unstarted;
        ready = old.ready;
        turn = λ waits. turn_other begun.turn (passage_of frame) (turn_of new) (passage_of (frame_in frames n))
            (λ same. differ (begun.tracked.distinct number n below inside same)) ∙ old.turn waits;
        coming = old.coming;
      }

  tracked : IsTracked network plan cycles no_start after
  tracked = record {
    each = λ n inside. elim (cases_eq number n) [
      | inl same ↦ subst (IsFrame network plan cycles no_start) (sym (ap (frame_in after) (sym same) ∙ (here ∙ has.is))) is_here
      | inr differ ↦ let size = long in subst (IsFrame network plan cycles no_start) (sym (elsewhere n differ)) (is_elsewhere n (omega arith) differ)
    ];
    complete = λ q passage.
        let at = begun.tracked.complete q passage in
        let size = long in
        (at.0, omega (arith, at.1), stays at.0 ∙ at.2);
    distinct = λ a b a_below b_below same.
        let size = long in
        begun.tracked.distinct a b (omega arith) (omega arith) (sym (stays a) ∙ (same ∙ stays b));
  }

  -- ---- the turns

  due_is : (due : ℕ) → IsReady network offsets no_start (passage_of frame) due → frame.ready ≡ due
  unfolding passage_of
  due_is due (inl (sent, at)) = first.planned number (omega arith) below ∙ sym at
  due_is due (inr (before, s, next, at, after_it)) = absurd (Contains-nil _ at)

  all_turns : (q : Passage) (due : ℕ) → IsPassage network cycles q → IsReady network offsets no_start q due → IsTurn slack due q.stream (turns q)
  unfolding passage_of
  all_turns q due passage is_ready = elim (passage_cases (passage_of frame) q) [
    | inl is ↦
        let at = due_is due (subst (λ x. IsReady network offsets no_start x due) (sym is) is_ready) in
        subst (IsTurn slack due q.stream) (sym (turn_same begun.turn (passage_of frame) (turn_of new) q is))
        (subst (λ i. IsTurn slack due i (turn_of new)) (ap (λ (p : Passage). p.stream) is) (subst (λ n. IsTurn slack n frame.stream (turn_of new)) at has.turn))
    | inr differ ↦ subst (IsTurn slack due q.stream) (sym (turn_other begun.turn (passage_of frame) (turn_of new) q differ))
        (begun.turns q due passage is_ready)
  ]

  pub begun_next : AreBegun network offsets slack cycles no_start after
  begun_next = record { turn = turns; tracked = tracked; turns = all_turns }

  -- ---- in line

  behind_all : (a : ℕ) → a < number → IsOneVisit (frame_in frames a) frame → (frame_in frames a).stage ≡ Queued
      → (frame_in frames a).ready < new.ready
  behind_all a less one queued =
      let last = number - 1 in
      let next : number ≡ last + 1 = omega arith in
      elim (cases_eq a last) [
        | inl same ↦ has.behind a (omega arith) one queued
        | inr differ ↦
            let before : a < last = omega arith in
            let last_one : IsOneVisit (frame_in frames last) frame =
            between network cycles frames line a last number before (omega arith) below one in
            let a_last : IsOneVisit (frame_in frames a) (frame_in frames last) = (one.0 ∙ sym last_one.0, one.1 ∙ sym last_one.1) in
            let last_queued : (frame_in frames last).stage ≡ Queued =
            sym (one_stage network offsets number frames first a last (omega arith) (omega arith) a_last) ∙ queued in
            let sooner = line.readies a last before (omega arith) a_last queued last_queued in
            let two = has.behind last next last_one last_queued in
            omega arith
      ]

  readies_next : (a b : ℕ) → a < b → b < length after → IsOneVisit (frame_in after a) (frame_in after b)
      → (frame_in after a).stage ≡ Queued → (frame_in after b).stage ≡ Queued
      → (frame_in after a).ready < (frame_in after b).ready
  readies_next a b less inside one a_queued b_queued =
      let size = long in
      let old_one = visits_stay a b one in
      let a_old : (frame_in frames a).stage ≡ Queued = sym (stage_stays a) ∙ a_queued in
      let b_old : (frame_in frames b).stage ≡ Queued = sym (stage_stays b) ∙ b_queued in
      let old = line.readies a b less (omega arith) old_one a_old b_old in
      elim (cases_eq number b) [
        | inl same ↦
            let order = behind_all a (omega arith)
            (subst (λ n. IsOneVisit (frame_in frames a) (frame_in frames n)) (sym same) old_one) a_old in
            let at = ap (λ (f : Frame). f.ready) (here_at b same) in
            let kept = ap (λ (f : Frame). f.ready) (elsewhere a (λ is. omega arith)) in
            omega arith
        | inr differ ↦
            let kept = ap (λ (f : Frame). f.ready) (elsewhere b differ) in
            elim (cases_eq number a) [
              | inl same ↦
                  let at = ap (λ (f : Frame). f.ready) (here_at a same) in
                  let upto = has.turn.upto in
                  let old_at = ap (λ n. (frame_in frames n).ready) same in
                  omega arith
              | inr apart ↦ let kept_too = ap (λ (f : Frame). f.ready) (elsewhere a apart) in omega arith
            ]
      ]

  pub line_next : AreInLine network cycles after
  unfolding passage_of
  line_next =
      let size = long in
      record {
        count = long ∙ line.count;
        hop = λ n inside. subst (λ (x : Passage). x.hop < hop_count network x.stream) (sym (stays n)) (line.hop n (omega arith));
        place = λ n inside. subst (λ (x : Passage). (first_visit network x.stream x.hop * cycles ≤ n)
            × (n < first_visit network x.stream (x.hop + 1) * cycles))
            (sym (stays n)) (line.place n (omega arith));
        onward = λ n more inside within.
            let old_within = subst (λ (x : Passage). x.hop + more < hop_count network x.stream) (stays n) within in
            let up = line.onward n more (omega arith) old_within in
            let far = up.0 in
            let there : n + more * (length (shifts network (frame_in after n).stream) * cycles)
            ≡ n + more * (length (shifts network (frame_in frames n).stream) * cycles) =
            ap (λ (x : Passage). n + more * (length (shifts network x.stream) * cycles)) (stays n) in (
              omega arith,
              ap (λ m. passage_of (frame_in after m)) there
                  ∙ (stays (n + more * (length (shifts network (frame_in frames n).stream) * cycles))
                  ∙ (up.1 ∙ ap (λ (x : Passage). record x { hop = x.hop + more }) (sym (stays n)))),
            );
        gone = λ a b less inside one stage. stage_stays a
            ∙ line.gone a b less (omega arith) (visits_stay a b one) (sym (stage_stays b) ∙ stage);
        coming = λ a b less inside one stage. stage_stays b
            ∙ line.coming a b less (omega arith) (visits_stay a b one) (sym (stage_stays a) ∙ stage);
        readies = readies_next;
      }

  pub first_next : AreFirst network offsets (number + 1) after
  unfolding passage_of
  first_next = record {
    stages = λ k inside.
        let size = long in
        stage_stays k ∙ (first.stages k (omega arith) ∙ ap (λ (x : Passage). first_stage network x.stream x.hop) (sym (stays k)));
    planned = λ k since inside.
        let size = long in
        let is = elsewhere k (λ same. omega arith) in
        subst (λ (f : Frame). f.ready ≡ f.cycle * network.cycle + offset_of offsets f.stream + f.shift) (sym is) (first.planned k (omega arith) (omega arith));
  }
