-- The items stay those that the run waits for, by the start of one.
use Rattle.std.proofs.Common.{◌≡◌, ℕ, ◌+◌, ◌-◌, ◌*◌, ◌<◌, List, length, slice_set, refl, sym, ap, ◌∙◌, subst, arith, inl, inr}
use Rattle.std.proofs.lemmas.Bool.{cases_eq}
use Rattle.std.proofs.lemmas.List.{get_or-set_same, get_or-set_other}
use Rattle.std.proofs.lemmas.List.Elements.{Contains-append_left, Contains-push}
use Rattle.tsn_model.specs.Network.{Network, IsWellFormed, route_of, hop_count, route_link, Continues}
use Rattle.tsn_model.specs.Timing.{hop_delay, shifts}
use Rattle.tsn_model.specs.Bridge.{LinkGates, Passage, BridgeRun, StartedAt, IsReady}
use Rattle.tsn_replay.specs.declared.queue.Frame.{Frame}
use Rattle.tsn_replay.specs.Queue.{AreInLine, frame_in, passage_of}
use Rattle.tsn_replay.specs.Progress.{Turn, Plan, IsTurn, IsRunSoFar, IsDue, IsFrame, IsTracked, IsOnward, AreMoved, HasTurn, with_turns, with_turn, turn_of, arrived, left}
use Rattle.tsn_replay.proofs.PassageStarts.{with_passage, new_start, turned, turned_onward, turned_other, onward_cases, never_onward, onward_later, newly_ready}
use Rattle.tsn_replay.proofs.Moved.{gone_at, come_at, same_passage}

pub frame_set_same : (frames : List Frame) (number : ℕ) (frame : Frame) → number < length frames → frame_in (slice_set frames number frame) number ≡ frame
unfolding frame_in
frame_set_same frames number frame below = get_or-set_same frames number frame _ below

pub frame_set_other : (frames : List Frame) (number other : ℕ) (frame : Frame) → (number ≡ other → ⊥) → frame_in (slice_set frames number frame) other ≡ frame_in frames other
unfolding frame_in
frame_set_other frames number other frame differ = get_or-set_other frames number other frame _ (λ same. differ (sym same))

-- the number of the item of a frame on another hop
abbrev pub number_on : Network → ℕ → List Frame → ℕ → ℕ → ℕ
number_on network cycles frames number hop =
    number + (hop - (frame_in frames number).hop) * (length (shifts network (frame_in frames number).stream) * cycles)

-- the turns of the passages to which the frame comes, and all turns then
abbrev pub next_turns : Network → ℕ → List Frame → List Frame → ℕ → Passage → Turn
next_turns network cycles frames moved number q = turn_of (frame_in moved (number_on network cycles frames number q.hop))

abbrev pub turns_after : Network → Plan → ℕ → List Frame → List Frame → ℕ → Passage → Turn
turns_after network plan cycles frames moved number =
    turned network plan.turn (passage_of (frame_in frames number)) (next_turns network cycles frames moved number)

module _ (network : Network) (formed : IsWellFormed network) (plan : Plan) (gates : List LinkGates) (cycles : ℕ)
    (free : ℕ → ℕ) (time : ℕ) (run : BridgeRun)
    (so_far : IsRunSoFar network plan gates cycles free time run) (frames moved : List Frame)
    (tracked : IsTracked network plan cycles run frames) (line : AreInLine network cycles frames)
    (number : ℕ) (below : number < length frames) (ready : ℕ)
    (due : IsDue network plan gates cycles free time run (passage_of (frame_in frames number)) ready)
    (are : AreMoved network plan.slack frames number time moved) where
  abbrev frame : Frame
  frame = frame_in frames number

  abbrev p : Passage
  p = passage_of frame

  abbrev new : BridgeRun
  new = with_passage run p time

  record Comes (q : Passage) : Type 0 where
    within : number_on network cycles frames number q.hop < length frames
    is : passage_of (frame_in frames (number_on network cycles frames number q.hop)) ≡ q

  comes : (q : Passage) → IsOnward network p q → Comes q
  unfolding passage_of
  comes q is =
      let later : frame.hop < q.hop =
      onward_later network formed plan gates cycles free time run so_far p due.passage_is due.unstarted q is in
      let sum : frame.hop + (q.hop - frame.hop) ≡ q.hop = omega arith in
      let at = line.onward number (q.hop - frame.hop) below (subst (λ k. k < hop_count network frame.stream) (sym sum) is.inside) in
      record { within = at.0; is = at.1 ∙ (ap (λ k. record p { hop = k }) sum ∙ sym is.same) }

  has_turn : (q : Passage) → IsOnward network p q
      → HasTurn network plan.slack frames (number_on network cycles frames number q.hop)
      (arrived network frame time (frame_in frames (number_on network cycles frames number q.hop))) (time + 1)
      (frame_in moved (number_on network cycles frames number q.hop))
  has_turn q is = let at = comes q is in
      are.onward (number_on network cycles frames number q.hop) at.within (subst (IsOnward network p) (sym at.is) is)

  pub next_is_turn : (q : Passage) → IsOnward network p q
      → IsTurn plan.slack (time + hop_delay network p.stream (route_link network p.stream p.hop)) p.stream
      (next_turns network cycles frames moved number q)
  unfolding passage_of
  next_is_turn q is =
      let at = comes q is in
      let stream : (frame_in frames (number_on network cycles frames number q.hop)).stream ≡ frame.stream =
      ap (λ (x : Passage). x.stream) at.is ∙ ap (λ (x : Passage). x.stream) is.same in
      subst (λ n. IsTurn plan.slack (time + hop_delay network frame.stream (route_link network frame.stream frame.hop)) n
      (turn_of (frame_in moved (number_on network cycles frames number q.hop)))) stream
      (has_turn q is).turn

  pub next_is_later : (q : Passage) → IsOnward network p q → time < (next_turns network cycles frames moved number q).ready
  next_is_later q is = let least = (has_turn q is).least in omega arith

  abbrev turns : Passage → Turn
  turns = turns_after network plan cycles frames moved number

  kept : (q : Passage) (s : ℕ) → StartedAt run q s → StartedAt new q s
  kept q s at = Contains-append_left run.scheduled _ _ at

  ready_kept : (q : Passage) (t : ℕ) → IsReady network plan.offsets run q t → IsReady network plan.offsets new q t
  ready_kept q t (inl first) = inl first
  ready_kept q t (inr (before, s, next, at, after)) = inr (before, s, next, kept (record q { hop = before }) s at, after)

  -- the item itself is gone
  is_gone : IsFrame network (with_turns plan turns) cycles new (left frame)
  unfolding passage_of
  is_gone = record {
    passage = (tracked.each number below).passage;
    gone = λ stage. (time, Contains-push run.scheduled (record { passage = p; time = time }));
    unstarted = λ not_gone s at. not_gone refl;
    ready = λ stage. cc;
    turn = λ stage. cc;
    coming = λ stage q_due is_ready. cc;
  }

  -- the frame has come to those that are onward of it
  is_come : (other : ℕ) → other < length frames → IsOnward network p (passage_of (frame_in frames other))
      → IsFrame network (with_turns plan turns) cycles new
      (with_turn (arrived network frame time (frame_in frames other)) (turn_of (frame_in moved other)))
  unfolding passage_of
  is_come other inside is =
      let q = passage_of (frame_in frames other) in
      let at = comes q is in
      let one : number_on network cycles frames number q.hop ≡ other =
      tracked.distinct (number_on network cycles frames number q.hop) other at.within inside at.is in
      record {
        passage = (tracked.each other inside).passage;
        gone = λ stage. cc;
        unstarted = λ not_gone s started. elim (new_start run p time q s started) [
          | inl old ↦ never_onward network formed plan gates cycles free time run so_far p due.passage_is due.unstarted q s is old
          | inr (same, when) ↦
              let later = onward_later network formed plan gates cycles free time run so_far p due.passage_is due.unstarted q is in
              let hop = ap (λ (x : Passage). x.hop) same in
              omega arith
        ];
        ready = λ stage. (
          time + hop_delay network q.stream (route_link network q.stream frame.hop),
          inr (
            frame.hop,
            time,
            subst (λ n. Continues network (route_of network n) frame.hop q.hop) (sym (ap (λ (x : Passage). x.stream) is.same)) is.continues,
            subst (λ x. StartedAt new x time)
                (λ i. record { stream = (sym is.same i).stream; shift = (sym is.same i).shift; cycle = (sym is.same i).cycle; hop = frame.hop })
                (Contains-push run.scheduled (record { passage = p; time = time })),
            refl,
          ),
        );
        turn = λ stage. turned_onward network plan.turn p (next_turns network cycles frames moved number) q is
            ∙ ap (λ n. turn_of (frame_in moved n)) one;
        coming = λ stage q_due is_ready. cc;
      }

  -- each other one is what it was
  is_kept : (other : ℕ) → other < length frames → (number ≡ other → ⊥) → (IsOnward network p (passage_of (frame_in frames other)) → ⊥)
      → IsFrame network (with_turns plan turns) cycles new (frame_in frames other)
  is_kept other inside differ never =
      let before = tracked.each other inside in
      let q = passage_of (frame_in frames other) in
      record {
        passage = before.passage;
        gone = λ stage. let at = before.gone stage in (at.0, kept q at.0 at.1);
        unstarted = λ not_gone s started. elim (new_start run p time q s started) [
          | inl old ↦ before.unstarted not_gone s old
          | inr (same, when) ↦ differ (tracked.distinct number other below inside same)
        ];
        ready = λ stage. let at = before.ready stage in (at.0, ready_kept q at.0 at.1);
        turn = λ stage. turned_other network plan.turn p (next_turns network cycles frames moved number) q never ∙ before.turn stage;
        coming = λ stage q_due is_ready.
            elim (newly_ready network formed plan gates cycles free time run so_far p due.passage_is due.unstarted
            time q q_due before.passage is_ready) [
              | inl old ↦ before.coming stage q_due old
              | inr (is, when) ↦ never is
            ];
      }

  each_moved : (other : ℕ) → other < length frames → IsFrame network (with_turns plan turns) cycles new (frame_in moved other)
  each_moved other inside = elim (cases_eq number other) [
    | inl same ↦ subst (IsFrame network (with_turns plan turns) cycles new)
        (sym (gone_at network plan.slack frames number time moved are other same))
        (subst (λ n. IsFrame network (with_turns plan turns) cycles new (left (frame_in frames n))) same is_gone)
    | inr differ ↦ elim (onward_cases network p (passage_of (frame_in frames other))) [
      | inl is ↦ subst (IsFrame network (with_turns plan turns) cycles new)
          (sym (come_at network plan.slack frames number time moved are other inside is)) (is_come other inside is)
      | inr never ↦ subst (IsFrame network (with_turns plan turns) cycles new) (sym (are.others other differ never))
          (is_kept other inside differ never)
    ]
  ]

  pub tracked_next : IsTracked network (with_turns plan turns) cycles new moved
  tracked_next = record {
    each = λ other inside. each_moved other (let size = are.count in omega arith);
    complete = λ q passage.
        let at = tracked.complete q passage in (
          at.0,
          (let inside = at.1 in let size = are.count in omega arith),
          same_passage network plan.slack frames number time moved are at.0 at.1 ∙ at.2,
        );
    distinct = λ a b a_below b_below same.
        let size = are.count in
        let a_inside : a < length frames = omega arith in
        let b_inside : b < length frames = omega arith in
        tracked.distinct a b a_inside b_inside
        (sym (same_passage network plan.slack frames number time moved are a a_inside)
        ∙ (same ∙ same_passage network plan.slack frames number time moved are b b_inside));
  }
