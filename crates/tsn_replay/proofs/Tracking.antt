-- The frames of a replay are what its run waits for.
use Rattle.std.proofs.Common.{◌≡◌, ℕ, ◌+◌, ◌*◌, ◌≤◌, ◌<◌, ◌⊎◌, List, ◌++◌, map, length, get_or, Option, Some, None, refl, sym, ap, ◌∙◌, subst, arith, inl, inr}
use Rattle.std.specs.List.{AllPairs}
use Rattle.std.proofs.lemmas.Bool.{cases_lt, cases_eq, cases_order}
use Rattle.std.proofs.lemmas.List.{get_or_default, length-append}
use Rattle.std.proofs.Math.ListN.{get_or-map, length-map, get_or-append}
use Rattle.std.proofs.lemmas.List.Elements.{All-contains, Contains-append_left}
use Rattle.tsn_model.specs.Network.{Network, IsWellFormed, IsRoute, route_of, hop_count, route_link, IsSent, Continues}
use Rattle.tsn_model.specs.Timing.{hop_delay}
use Rattle.tsn_model.specs.Schedule.{offset_of}
use Rattle.tsn_model.specs.Bridge.{LinkGates, Passage, ScheduledStart, BridgeRun, WireUse, link_of, length_of, scheduled_use, background_use, wire_uses, AreDisjoint, IsPassage, StartedAt, NotStartedBefore, IsReady, FitsAt, IsBlocked, IsBridgeRun}
use Rattle.tsn_model.proofs.Limits.{occupancy-ge}
use Rattle.tsn_model.proofs.Hops.{hop_once, same_cycle, link_exists, passage_cases, route_formed}
use Rattle.tsn_model.proofs.Branches.{continued_once, sent_alone}
use Rattle.tsn_model.proofs.Lists.{Contains-map}
use Rattle.tsn_replay.specs.declared.queue.Frame.{Frame}
use Rattle.tsn_replay.specs.declared.queue.Stage.TheVariants.{Queued}
use Rattle.tsn_replay.specs.Queue.{Waits, IsHead, IsSilent, frame_in, passage_of}
use Rattle.tsn_replay.specs.Progress.{Turn, Goes, Plan, IsHeldUp, IsRunSoFar, IsTracked, IsDue, IsQuiet, turn_of}
use Rattle.tsn_replay.specs.Frames.{AreSpaced}
use Rattle.tsn_replay.proofs.Nexts.{waiting_link}
use Rattle.tsn_replay.proofs.Stages.{stage_cases}

-- two elements at different numbers of the first of two lists
pairs_apart : {X Y : Type 0} (R : Y → Y → Type 0) (f : X → Y) (xs : List X) (ys : List Y) (d : X) (i j : ℕ) → AllPairs R (map f xs ++ ys) → i < j → j < length xs → R (f (get_or xs i d)) (f (get_or xs j d))
pairs_apart {X} {Y} R f xs ys d i j pairs order below =
    let long : length (map f xs) ≡ length xs = length-map xs f in
    let whole : length (map f xs ++ ys) ≡ length (map f xs) + length ys = length-append (map f xs) ys in
    let at : (k : ℕ) → k < length xs → get_or (map f xs ++ ys) k (f d) ≡ f (get_or xs k d) = λ k k_below. get_or-append (map f xs) ys (f d) k (omega arith) ∙ get_or-map f xs k d in
    subst (λ y. R (f (get_or xs i d)) y) (at j below) (subst (λ y. R y (get_or (map f xs ++ ys) j (f d))) (at i (omega arith)) (pairs i j (f d) order (omega arith)))

-- two uses of one wire that begin together have an instant in common
together : (network : Network) (p q : Passage) (s : ℕ) → link_of network p ≡ link_of network q → 1 ≤ length_of network p → 1 ≤ length_of network q
    → AreDisjoint (scheduled_use network (record { passage = p; time = s })) (scheduled_use network (record { passage = q; time = s }))
    ⊎ AreDisjoint (scheduled_use network (record { passage = q; time = s })) (scheduled_use network (record { passage = p; time = s })) → ⊥
unfolding scheduled_use
together network p q s same p_long q_long (inl apart) = apart same s (omega arith) (omega arith) (omega arith) (omega arith)
together network p q s same p_long q_long (inr apart) = apart (sym same) s (omega arith) (omega arith) (omega arith) (omega arith)

module _ (network : Network) (formed : IsWellFormed network) (plan : Plan) (gates : List LinkGates) (cycles : ℕ) (free : ℕ → ℕ) (now : ℕ) (run : BridgeRun)
    (spaced : AreSpaced network) (so_far : IsRunSoFar network plan gates cycles free now run) where
  -- a passage that started is one
  begun_passage : (q : Passage) (s : ℕ) → StartedAt run q s → IsPassage network cycles q
  begun_passage q s at =
      All-contains (λ (begun : ScheduledStart). IsPassage network cycles begun.passage) run.scheduled
      (record { passage = q; time = s }) so_far.passages at

  route_is : (q : Passage) → IsPassage network cycles q → IsRoute network (route_of network q.stream)
  route_is q passage = route_formed network formed q.stream passage.stream

  -- two starts on one link are not at one instant
  starts_apart : (p q : Passage) (s : ℕ) → StartedAt run p s → StartedAt run q s → link_of network p ≡ link_of network q → 1 ≤ length_of network p → 1 ≤ length_of network q → (p ≡ q → ⊥) → ⊥
  unfolding wire_uses scheduled_use
  starts_apart p q s (i, i_below, i_is) (j, j_below, j_is) same p_long q_long differ =
      let at_j : get_or run.scheduled j (record { passage = p; time = s }) ≡ record { passage = q; time = s } = get_or_default run.scheduled j (record { passage = p; time = s }) (record { passage = q; time = s }) j_below ∙ j_is in
      let disjoint : (a b : ScheduledStart) → a ≡ record { passage = p; time = s } → b ≡ record { passage = q; time = s }
      → AreDisjoint (scheduled_use network a) (scheduled_use network b) ⊎ AreDisjoint (scheduled_use network b) (scheduled_use network a) → ⊥ =
      λ a b a_is b_is apart. together network p q s same p_long q_long
      (elim apart [
        | inl ab ↦ inl (subst (λ y. AreDisjoint (scheduled_use network (record { passage = p; time = s })) (scheduled_use network y)) b_is (subst (λ x. AreDisjoint (scheduled_use network x) (scheduled_use network b)) a_is ab))
        | inr ba ↦ inr (subst (λ y. AreDisjoint (scheduled_use network (record { passage = q; time = s })) (scheduled_use network y)) a_is (subst (λ x. AreDisjoint (scheduled_use network x) (scheduled_use network a)) b_is ba))
      ]) in
      elim (cases_order i j) [
        | inl one ↦ differ (ap (λ (b : ScheduledStart). b.passage) (sym i_is ∙ (ap (λ n. get_or run.scheduled n (record { passage = p; time = s })) one ∙ at_j)))
        | inr two ↦ elim two [
          | inl before ↦ disjoint (get_or run.scheduled i (record { passage = p; time = s })) (get_or run.scheduled j (record { passage = p; time = s })) i_is at_j
              (inl (pairs_apart AreDisjoint (scheduled_use network) run.scheduled (map (background_use network) run.background) (record { passage = p; time = s }) i j so_far.wires_shared before j_below))
          | inr after ↦ disjoint (get_or run.scheduled i (record { passage = p; time = s })) (get_or run.scheduled j (record { passage = p; time = s })) i_is at_j
              (inr (pairs_apart AreDisjoint (scheduled_use network) run.scheduled (map (background_use network) run.background) (record { passage = p; time = s }) j i so_far.wires_shared after i_below))
        ]
      ]

  long : (p : Passage) → IsPassage network cycles p → 1 ≤ length_of network p
  unfolding length_of link_of
  long p passage = occupancy-ge network formed p.stream (route_link network p.stream p.hop) (link_exists network formed p.stream passage.stream p.hop passage.hop)

  one_hop : (p q : Passage) → IsPassage network cycles p → IsPassage network cycles q → link_of network p ≡ link_of network q → p.stream ≡ q.stream → p.hop ≡ q.hop
  unfolding link_of
  one_hop p q passage q_passage link stream = grind (arith, hop_once)

  same_link : (p q : Passage) (j k : ℕ) → p.stream ≡ q.stream → j ≡ k → link_of network (record p { hop = j }) ≡ link_of network (record q { hop = k })
  unfolding link_of
  same_link p q j k stream hop = ap (λ n. route_link network p.stream n) hop ∙ ap (λ i. route_link network i k) stream

  -- two that are ready together on one hop are of one cycle and shift
  one_cycle : (p q : Passage) (t : ℕ) → IsPassage network cycles p → IsPassage network cycles q → link_of network p ≡ link_of network q → p.stream ≡ q.stream → p.hop ≡ q.hop
      → IsReady network plan.offsets run p t → IsReady network plan.offsets run q t → (p.cycle ≡ q.cycle) × (p.shift ≡ q.shift)
  one_cycle p q t passage q_passage link stream hop (inl (first, at)) (inl (first_too, at_too)) =
      let offset : offset_of plan.offsets p.stream ≡ offset_of plan.offsets q.stream = ap (offset_of plan.offsets) stream in
      let cycle = same_cycle p.cycle q.cycle network.cycle p.shift q.shift (spaced.within p.stream p.shift passage.stream passage.sent)
      (spaced.within q.stream q.shift q_passage.stream q_passage.sent) (omega arith) in
      let begun : p.cycle * network.cycle ≡ q.cycle * network.cycle = ap (λ n. n * network.cycle) cycle in
      (cycle, omega arith)
  one_cycle p q t passage q_passage link stream hop (inl (first, at)) (inr (before, s, next, started, after)) =
      let begun = begun_passage (record q { hop = before }) s started in
      absurd (sent_alone network (route_of network q.stream) (route_is q q_passage) before q.hop begun.hop next
      (subst (IsSent network (route_of network q.stream)) hop (subst (λ i. IsSent network (route_of network i) p.hop) stream first)))
  one_cycle p q t passage q_passage link stream hop (inr (before, s, next, started, after)) (inl (first, at)) =
      let begun = begun_passage (record p { hop = before }) s started in
      absurd (sent_alone network (route_of network p.stream) (route_is p passage) before p.hop begun.hop next
      (subst (IsSent network (route_of network p.stream)) (sym hop)
      (subst (λ i. IsSent network (route_of network i) q.hop) (sym stream) first)))
  one_cycle p q t passage q_passage link stream hop (inr (before, s, next, started, after)) (inr (before_too, u, next_too, started_too, after_too)) =
      let p_passage = begun_passage (record p { hop = before }) s started in
      let u_passage = begun_passage (record q { hop = before_too }) u started_too in
      let next_here : Continues network (route_of network q.stream) before q.hop =
      subst (Continues network (route_of network q.stream) before) hop
      (subst (λ i. Continues network (route_of network i) before p.hop) stream next) in
      let below : before < hop_count network q.stream = subst (λ i. before < hop_count network i) stream p_passage.hop in
      let same : before ≡ before_too =
      continued_once network (route_of network q.stream)
      (route_is q q_passage) before before_too q.hop below u_passage.hop q_passage.hop next_here next_too in
      let delay : hop_delay network p.stream (route_link network p.stream before) ≡ hop_delay network q.stream (route_link network q.stream before_too) =
      ap (λ k. hop_delay network p.stream (route_link network p.stream k)) same ∙ ap (λ i. hop_delay network i (route_link network i before_too)) stream in
      let together_at : s ≡ u = omega arith in
      elim (passage_cases (record p { hop = before }) (record q { hop = before_too })) [
        | inl is ↦ (ap (λ (x : Passage). x.cycle) is, ap (λ (x : Passage). x.shift) is)
        | inr differ ↦
            absurd (starts_apart (record p { hop = before }) (record q { hop = before_too }) s started (subst (λ v. StartedAt run (record q { hop = before_too }) v) (sym together_at) started_too)
            (same_link p q before before_too stream same) (long (record p { hop = before }) p_passage) (long (record q { hop = before_too }) u_passage) differ)
      ]

  -- two frames of one stream are ready on a link at different instants
  pub readies_differ : (p q : Passage) (t : ℕ) → IsPassage network cycles p → IsPassage network cycles q → link_of network p ≡ link_of network q → p.stream ≡ q.stream
      → IsReady network plan.offsets run p t → IsReady network plan.offsets run q t → p ≡ q
  readies_differ p q t passage q_passage link stream ready q_ready =
      let hop = one_hop p q passage q_passage link stream in
      let same = one_cycle p q t passage q_passage link stream hop ready q_ready in
      λ i. record { stream = stream i; shift = same.1 i; cycle = same.0 i; hop = hop i }

  -- where no frame may be early a passage is held up by one that is before it in the queue
  module _ (exact : plan.slack ≡ 0) where
    turn_exact : (q : Passage) (due : ℕ) → IsPassage network cycles q → IsReady network plan.offsets run q due
        → ((plan.turn q).ready ≡ due) × ((plan.turn q).rank ≡ q.stream)
    turn_exact q due passage is_ready =
        let turn = so_far.turns q due passage is_ready in
        let upto = turn.upto in
        let since = turn.since in
        (omega arith, turn.exact exact)

    blocked_exact : (q : Passage) (due t : ℕ) → IsPassage network cycles q → IsReady network plan.offsets run q due
        → IsHeldUp network plan.offsets gates cycles plan.turn run q t
        → IsBlocked network plan.offsets gates cycles run q due t
    blocked_exact q due t passage is_ready (inl closed) = inl closed
    blocked_exact q due t passage is_ready (inr (inl wire)) = inr (inl wire)
    blocked_exact q due t passage is_ready (inr (inr (other, other_due, other_passage, differ, on, other_ready, goes, not_before))) =
        let turn = turn_exact q due passage is_ready in
        let other_turn = turn_exact other other_due other_passage other_ready in
        let at = turn.0 in
        let other_at = other_turn.0 in
        let rank = turn.1 in
        let other_rank = other_turn.1 in
        inr (inr (
          other,
          other_due,
          other_passage,
          record {
            same_link = on;
            ready = other_ready;
            order = elim goes [
              | inl sooner ↦ inl (omega arith)
              | inr (same, order) ↦
                  let together : other_due ≡ due = omega arith in
                  elim (cases_lt other.stream q.stream) [
                    | inl less ↦ inr (together, less)
                    | inr not_less ↦ absurd (differ (readies_differ other q due other_passage passage on (omega arith)
                        (subst (IsReady network plan.offsets run other) together other_ready) is_ready))
                  ]
            ];
          },
          not_before,
        ))

    pub exact_ends : now ≡ cycles * network.cycle → IsBridgeRun network plan.offsets gates cycles run
    exact_ends at_end = record {
      wires_shared = so_far.wires_shared;
      uses_begin = omega arith;
      background_length = so_far.background_length;
      background_open = so_far.background_open;
      passages = so_far.passages;
      once = so_far.once;
      ready = λ k d below.
          let found = so_far.begun_ready k d below in
          let turn = turn_exact (get_or run.scheduled k d).passage found.0 (so_far.passages k d below) found.1 in
          let at = turn.0 in
          (found.0, found.1, (let since = found.2 in omega arith));
      fits = so_far.fits;
      waits = λ q due t passage is_ready since in_time none.
          let turn = turn_exact q due passage is_ready in
          let at = turn.0 in
          blocked_exact q due t passage is_ready (so_far.waits q due t passage is_ready (omega arith) in_time (inl (omega arith)) none);
    }

  module _ (frames : List Frame) (tracked : IsTracked network plan cycles run frames) where
    -- a passage that is ready and hasn't started is a waiting frame's
    record Found (q : Passage) : Type 0 where
      number : ℕ
      below : number < length frames
      is : passage_of (frame_in frames number) ≡ q
      turn_is : turn_of (frame_in frames number) ≡ plan.turn q
      waits : Waits network (link_of network q) (frame_in frames number)

    found : (q : Passage) (ready : ℕ) → IsPassage network cycles q → IsReady network plan.offsets run q ready → ((s : ℕ) → StartedAt run q s → ⊥) → Found q
    unfolding passage_of link_of
    found q ready passage is_ready never =
        let at = tracked.complete q passage in
        let frame = tracked.each at.0 at.1 in
        let is = at.2 in
        elim (stage_cases (frame_in frames at.0).stage) [
          | inl coming ↦ absurd (frame.coming coming ready (subst (λ x. IsReady network plan.offsets run x ready) (sym is) is_ready))
          | inr not_coming ↦ elim not_coming [
            | inl queued ↦ record {
              number = at.0;
              below = at.1;
              is = is;
              turn_is = sym (frame.turn queued) ∙ ap plan.turn is;
              waits = record { waits = queued; on = ap (λ (x : Passage). route_link network x.stream x.hop) is };
            }
            | inr gone ↦ let begun = frame.gone gone in absurd (never begun.0 (subst (λ x. StartedAt run x begun.0) is begun.1))
          ]
        ]

    frame_passage : (number : ℕ) → number < length frames → IsPassage network cycles (passage_of (frame_in frames number))
    frame_passage number below = (tracked.each number below).passage

    frame_never : (number : ℕ) → number < length frames → (frame_in frames number).stage ≡ Queued → (s : ℕ)
        → StartedAt run (passage_of (frame_in frames number)) s → ⊥
    frame_never number below waits s started = (tracked.each number below).unstarted (λ gone. cc) s started

    -- every start so far is at or before the present instant
    not_later : (q : Passage) (t s : ℕ) → now ≤ t → NotStartedBefore run q (t + 1) → StartedAt run q s → ⊥
    unfolding wire_uses scheduled_use
    not_later q t s present none started =
        let late = none s started in
        let begins = All-contains (λ (wire : WireUse). (wire.from ≤ now) × (wire.from < cycles * network.cycle)) (wire_uses network run) (scheduled_use network (record { passage = q; time = s })) so_far.uses_begin
        (Contains-append_left (map (scheduled_use network) run.scheduled) (map (background_use network) run.background) _ (Contains-map (scheduled_use network) run.scheduled (record { passage = q; time = s }) started)) in
        absurd (omega arith)

    -- where an item waits its passage has the turn that it has
    turn_here : (number : ℕ) → number < length frames → (frame_in frames number).stage ≡ Queued
        → plan.turn (passage_of (frame_in frames number)) ≡ turn_of (frame_in frames number)
    turn_here number below waits = (tracked.each number below).turn waits

    blocked_by : (head : Option ℕ) (link t : ℕ) (q : Passage) → IsPassage network cycles q → link_of network q ≡ link → Found q → (plan.turn q).ready ≤ t
        → IsHead network frames link head
        → ((number : ℕ) → head ≡ Some number → (frame_in frames number).ready ≤ t → FitsAt network gates (passage_of (frame_in frames number)) t → ⊥) → NotStartedBefore run q (t + 1)
        → IsHeldUp network plan.offsets gates cycles plan.turn run q t
    blocked_by None link t q passage on at since none closed not_yet = absurd
        (none at.number at.below (subst (λ l. Waits network l (frame_in frames at.number)) on at.waits))
    blocked_by (Some head) link t q passage on at since is_head closed not_yet =
        let waits = subst (λ l. Waits network l (frame_in frames at.number)) on at.waits in
        let head_below = is_head.0 in
        elim (cases_eq head at.number) [
          | inl same ↦
              let is : passage_of (frame_in frames head) ≡ q = ap (λ n. passage_of (frame_in frames n)) same ∙ at.is in
              let turn : turn_of (frame_in frames head) ≡ plan.turn q = ap (λ n. turn_of (frame_in frames n)) same ∙ at.turn_is in
              inl (λ fits. closed head refl (subst (λ (x : Turn). x.ready ≤ t) (sym turn) since) (subst (λ x. FitsAt network gates x t) (sym is) fits))
          | inr differ ↦
              let order = is_head.2 at.number at.below waits in
              let due = (tracked.each head head_below).ready is_head.1.waits in
              inr (inr (
                passage_of (frame_in frames head),
                due.0,
                frame_passage head head_below,
                (λ is. differ (tracked.distinct head at.number head_below at.below (is ∙ sym at.is))),
                waiting_link network link (frame_in frames head) is_head.1 ∙ sym on,
                due.1,
                subst (λ x. Goes x (plan.turn q)) (sym (turn_here head head_below is_head.1.waits))
                    (subst (Goes (turn_of (frame_in frames head))) at.turn_is order),
                λ s started. absurd (frame_never head head_below is_head.1.waits s started),
              ))
        ]

    pub quiet_from_silent : (link t : ℕ) → now ≤ t → IsSilent network gates frames link t → IsQuiet network plan gates cycles t run link
    quiet_from_silent link t present silent = record {
      blocked = λ q ready passage on is_ready since none.
          let at = found q ready passage is_ready (λ s started. not_later q t s present none started) in
          blocked_by silent.head link t q passage on at since silent.is_head silent.closed none;
    }

    -- the head of a queue that fits is due
    pub due_from_head : (link number t : ℕ) → now ≤ t → t < cycles * network.cycle → free link ≤ t → (head : IsHead network frames link (Some number))
        → (frame_in frames number).ready ≤ t
        → FitsAt network gates (passage_of (frame_in frames number)) t
        → IsDue network plan gates cycles free t run (passage_of (frame_in frames number)) ((tracked.each number head.0).ready head.1.waits).0
    due_from_head link number t present in_time wire head since fits = record {
      passage_is = frame_passage number head.0;
      ready_at = ((tracked.each number head.0).ready head.1.waits).1;
      since = subst (λ (x : Turn). x.ready ≤ t) (sym (turn_here number head.0 head.1.waits)) since;
      unstarted = frame_never number head.0 head.1.waits;
      wire = subst (λ l. free l ≤ t) (sym (waiting_link network link (frame_in frames number) head.1)) wire;
      in_time = in_time;
      fits = fits;
      first = λ other other_ready passage same ready none differ.
          let at = found other other_ready passage ready (λ s started. not_later other t s present none started) in
          let on : link_of network other ≡ link = same ∙ waiting_link network link (frame_in frames number) head.1 in
          let waits = subst (λ l. Waits network l (frame_in frames at.number)) on at.waits in
          subst (λ x. Goes x (plan.turn other)) (sym (turn_here number head.0 head.1.waits))
          (subst (Goes (turn_of (frame_in frames number))) at.turn_is (head.2 at.number at.below waits));
    }
