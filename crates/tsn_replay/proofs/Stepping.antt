-- A step of a replay keeps its state.
use Rattle.std.proofs.Common.{◌≡◌, ℕ, ◌+◌, ◌*◌, ◌≤◌, ◌<◌, ◌⊎◌, ◌^◌, ◌-◌, List, [], length, get_or, slice_set, max, Option, Some, None, Vec, Global, All, sum_by, refl, sym, ap, ◌∙◌, subst, arith, inl, inr, mul-le-mul, mul-pos}
use Rattle.std.proofs.Math.Nat.{max-le, le-max_left, le-min}
use Rattle.std.proofs.lemmas.Bool.{cases_lt, cases_eq}
use Rattle.std.proofs.lemmas.List.{get_or_default, get_or-set_same, get_or-set_other, length-set}
use Rattle.std.proofs.lemmas.List.Elements.{All-set}
use Rattle.tsn_model.specs.Network.{Network, link_at, stream_count, route_of, hop_count, route_link, Continues}
use Rattle.tsn_model.specs.Timing.{occupancy}
use Rattle.tsn_model.specs.Bridge.{LinkGates, Passage, BridgeRun, IsBridgeRun, IsFed}
use Rattle.tsn_model.specs.Early.{IsEarlyRun}
use Rattle.tsn_replay.specs.declared.queue.Frame.{Frame}
use Rattle.tsn_replay.specs.declared.feed.Waiting.{Waiting}
use Rattle.tsn_replay.specs.declared.feed.Feed.{Feed}
use Rattle.tsn_replay.specs.declared.port.Port.{Port}
use Rattle.tsn_replay.specs.declared.engine.State.{State}
use Rattle.tsn_replay.specs.declared.queue.Stage.TheVariants.{Queued}
use Rattle.tsn_replay.specs.Queue.{Waits, AreInLine, IsOneVisit, Next, CanStart, IsNextOf, frame_in, passage_of, free_on}
use Rattle.tsn_replay.specs.Feeding.{waiting_on, IsFeedOf, IsSent}
use Rattle.tsn_replay.specs.Ports.{IsPort, IsScheduledNext, IsFirstPort, port_time, port_in}
use Rattle.tsn_replay.specs.Records.{IsRecord, noted}
use Rattle.tsn_replay.specs.Progress.{Plan, AreMoved, IsOnward, IsRunSoFar, IsFedSoFar, IsTracked, Setting, IsSetting, IsUnderWay, IsPortAt, IsState, AreStarts, arrived}
use Rattle.tsn_replay.proofs.PassageStarts.{with_passage}
use Rattle.tsn_replay.proofs.Advances.{turns_after}
use Rattle.tsn_replay.proofs.Moved.{moved_cases, gone_stage, same_passage}
use Rattle.tsn_replay.proofs.BackgroundStarts.{with_background}
use Rattle.tsn_replay.proofs.InLine.{come_coming, sooner_ready}
use Rattle.tsn_replay.proofs.Nexts.{time_facts, none_next, next_scheduled, next_background}
use Rattle.tsn_replay.proofs.Ports.{scheduled_later, port_later, port_kept}
use Rattle.tsn_replay.proofs.Records.{record_started, record_sent}
use Rattle.tsn_replay.proofs.States.{under_way_ports, port_set_same, port_set_other}
use Rattle.tsn_replay.proofs.Steps.{IsGiven, line_given, ends_run, ends_exact, ends_fed, can_start, passage_step, send_run, send_fed, still_tracked, time_falls}

abbrev no_list : LinkGates
no_list = record { link = 0; entries = [] }

module _ (setting : Setting) (state : State) (can : IsSetting setting) (is : IsState setting state) where
  abbrev network : Network
  network = setting.network

  abbrev line : ℕ → Option Waiting
  line = waiting_on state.feed

  abbrev end : ℕ
  end = setting.cycles * network.cycle

  abbrev made : BridgeRun
  made = is.under_way.made

  abbrev plan : Plan
  plan = record { offsets = setting.offsets; slack = setting.slack; turn = is.under_way.turn }

  abbrev port_at : ℕ → Port
  port_at number = port_in state.ports number

  abbrev pub link_of_list : ℕ → ℕ
  link_of_list number = (get_or setting.gates number no_list).link

  pub link_is : (number : ℕ) (d : LinkGates) → number < length setting.gates → (get_or setting.gates number d).link ≡ link_of_list number
  link_is number d below = ap (λ (g : LinkGates). g.link) (get_or_default setting.gates number d no_list below)

  ports : (number : ℕ) (d : LinkGates) → number < length setting.gates
      → IsPort network (get_or setting.gates number d).entries state.frames.items (line (get_or setting.gates number d).link) (get_or setting.gates number d).link (max (free_on state.free.items (get_or setting.gates number d).link) state.time) end (port_at number)
  ports number d below = subst (λ n. IsPort network (get_or setting.gates number d).entries state.frames.items (line (get_or setting.gates number d).link) (get_or setting.gates number d).link
      (max (free_on state.free.items (get_or setting.gates number d).link) state.time) n (port_at number)) is.under_way.end (is.ports.each number below d)

  -- nothing starts before the end
  module _ (late : (number : ℕ) → number < length state.ports → state.end ≤ port_time (port_at number)) where
    none : IsNextOf network setting.gates state.frames.items line state.free.items state.time end (record { link = 0; time = end; frame = None })
    none =
        none_next network setting.gates can.lists state.frames.items line state.free.items state.time end port_at ports (omega arith) (λ other below. let after = late other (omega arith) in omega arith)

    ends_as_run : IsEarlyRun network setting.offsets setting.gates setting.cycles (λ link. setting.slack) (λ p. (is.under_way.turn p).ready) made
    ends_as_run =
        ends_run network can.formed can.spaced plan setting.gates can.lists setting.cycles setting.background can.background line state.time
        state.free.items made state.frames.items is.under_way.run is.under_way.fed is.under_way.tracked
        (record { link = 0; time = end; frame = None }) none (omega arith) (omega arith)

    ends_as_exact : setting.slack ≡ 0 → IsBridgeRun network setting.offsets setting.gates setting.cycles made
    ends_as_exact exact =
        ends_exact network can.formed can.spaced plan setting.gates can.lists setting.cycles setting.background can.background line state.time
        state.free.items made state.frames.items is.under_way.run is.under_way.fed is.under_way.tracked
        (record { link = 0; time = end; frame = None }) none exact (omega arith) (omega arith)

    ends_as_fed : IsFed network setting.gates setting.cycles setting.background made
    ends_as_fed =
        ends_fed network can.formed can.spaced plan setting.gates can.lists setting.cycles setting.background can.background line state.time
        state.free.items made state.frames.items is.under_way.run is.under_way.fed is.under_way.tracked
        (record { link = 0; time = end; frame = None }) none (omega arith) (omega arith)

    pub ends_as_starts : AreStarts setting state.starts
    ends_as_starts = record {
      made = made;
      records = is.under_way.records;
      ready = λ p.
          (is.under_way.turn p).ready;
      early = ends_as_run;
      exact = ends_as_exact;
      fed = ends_as_fed;
    }

  -- something starts first on the link of a list
  module _ (number : ℕ) (first : IsFirstPort state.ports state.end number) where
    pub below : number < length setting.gates
    below = let within = first.within in let count = is.ports.count in omega arith

    least : (other : ℕ) → other < length setting.gates → port_time (port_at number) ≤ port_time (port_at other)
    least other other_below = let count = is.ports.count in first.least other (omega arith)

    abbrev pub link : ℕ
    link = link_of_list number

    -- another list's link is another one
    apart : (other : ℕ) (d : LinkGates) → other < length setting.gates → (number ≡ other → ⊥) → (get_or setting.gates other d).link ≡ link → ⊥
    apart other d other_below differ same = grind (arith, link_is, below)

    -- another list's port stays right until then, where neither its wire nor its queue changes
    other_later : (time other : ℕ) (d : LinkGates) (frames : List Frame) (free : List ℕ) (feed : Feed) → state.time ≤ time → time ≤ port_time (port_at other)
        → free_on free (get_or setting.gates other d).link ≡ free_on state.free.items (get_or setting.gates other d).link → waiting_on feed (get_or setting.gates other d).link ≡ line (get_or setting.gates other d).link
        → IsPort network (get_or setting.gates other d).entries frames (line (get_or setting.gates other d).link) (get_or setting.gates other d).link (max (free_on state.free.items (get_or setting.gates other d).link) state.time) state.end (port_at other)
        → IsPort network (get_or setting.gates other d).entries frames (waiting_on feed (get_or setting.gates other d).link) (get_or setting.gates other d).link (max (free_on free (get_or setting.gates other d).link) time) state.end (port_at other)
    other_later time other d frames free feed forward upto same_free same_line before =
        let at = (get_or setting.gates other d).link in
        let facts = time_facts (port_at other) in
        let low : max (free_on state.free.items at) state.time ≤ max (free_on state.free.items at) time = max-le (omega arith) (omega arith) in
        let one : max (free_on state.free.items at) time ≤ (port_at other).scheduled = max-le (omega arith) (omega arith) in
        let two : max (free_on state.free.items at) time ≤ (port_at other).background = max-le (omega arith) (omega arith) in
        subst (λ n. IsPort network (get_or setting.gates other d).entries frames (waiting_on feed at) at (max n time) state.end (port_at other)) (sym same_free)
        (subst (λ w. IsPort network (get_or setting.gates other d).entries frames w at (max (free_on state.free.items at) time) state.end (port_at other)) (sym same_line)
        (port_later network (get_or setting.gates other d).entries frames (line at) at (max (free_on state.free.items at) state.time) (max (free_on state.free.items at) time) state.end (port_at other) low one two before))

    -- ---- a scheduled frame

    module _ (waiting : ℕ) (head : (port_at number).head ≡ Some waiting) (time : ℕ) (time_is : (port_at number).scheduled ≡ time) (order : time ≤ (port_at number).background) where
      abbrev next : Next
      next = record { link = link; time = time; frame = Some waiting }

      is_next : IsNextOf network setting.gates state.frames.items line state.free.items state.time end next
      is_next =
          subst (λ h. IsNextOf network setting.gates state.frames.items line state.free.items state.time end (record { link = link; time = time; frame = h })) head
          (subst (λ t. IsNextOf network setting.gates state.frames.items line state.free.items state.time end (record { link = link; time = t; frame = (port_at number).head })) time_is
          (next_scheduled network setting.gates can.lists state.frames.items line state.free.items state.time end port_at ports number no_list below least (omega arith)))

      pub in_time : time < end
      in_time = omega arith

      can_start_here : CanStart network setting.gates state.frames.items line next (Some waiting)
      can_start_here = can_start network can.formed can.spaced plan setting.gates can.lists setting.cycles setting.background can.background
          line state.time state.free.items made state.frames.items is.under_way.run is.under_way.fed is.under_way.tracked
          next is_next in_time waiting refl

      pub waiting_below : waiting < length state.frames.items
      waiting_below = can_start_here.0.0

      pub waits_here : Waits network link (frame_in state.frames.items waiting)
      waits_here = can_start_here.0.1

      pub stream_below : (frame_in state.frames.items waiting).stream < stream_count network
      unfolding passage_of
      stream_below = (is.under_way.tracked.each waiting waiting_below).passage.stream

      pub hop_below : (frame_in state.frames.items waiting).hop < hop_count network (frame_in state.frames.items waiting).stream
      hop_below = is.under_way.line.hop waiting waiting_below

      -- a frame that waits before this one on a hop that continues this one is ready before it can be
      pub sooner_here : (a other : ℕ) → a < length state.frames.items → other < length state.frames.items
          → IsOnward network (passage_of (frame_in state.frames.items waiting)) (passage_of (frame_in state.frames.items other))
          → IsOneVisit (frame_in state.frames.items a) (frame_in state.frames.items other) → (frame_in state.frames.items a).stage ≡ Queued
          → (frame_in state.frames.items a).ready < (arrived network (frame_in state.frames.items waiting) time
          (frame_in state.frames.items other)).ready
      sooner_here = sooner_ready network can.formed plan setting.gates setting.cycles
          (free_on state.free.items) state.time made is.under_way.run state.frames.items is.under_way.tracked
          is.under_way.line link waiting time can_start_here.0 (is_next.wire in_time)

      pub forward : state.time ≤ time
      forward = is_next.forward

      -- what the step computes
      module _ (frame : Frame) (frame_is : frame ≡ frame_in state.frames.items waiting) (duration : ℕ) (duration_is : duration ≡ occupancy network frame.stream link) (some : 1 ≤ duration) (short : duration ≤ 1233600)
          (moved : List Frame) (are : AreMoved network setting.slack state.frames.items waiting time moved)
          (early : All (λ (f : Frame). f.ready ≤ 2 ^ 50) moved)
          (trace : BridgeRun) (trace_is : trace ≡ with_passage state.starts (passage_of frame) time)
          (frames : Vec Frame Global) (frames_are : frames.items ≡ moved)
          (free : Vec ℕ Global) (free_is : free.items ≡ slice_set state.free.items link (time + duration)) where
        abbrev started : State
        started = record state { time = time; frames = frames; free = free; starts = trace }

        pub started_under_way : IsUnderWay setting started
        started_under_way =
            let run = with_passage made (passage_of frame) time in
            let turns = turns_after network plan setting.cycles state.frames.items moved waiting in
            let after : Plan = record { offsets = setting.offsets; slack = setting.slack; turn = turns } in
            let step = passage_step network can.formed can.spaced plan setting.gates can.lists setting.cycles setting.background can.background
            line state.time state.free.items made state.frames.items is.under_way.run is.under_way.fed is.under_way.tracked
            next is_next in_time waiting refl frame frame_is run refl duration duration_is moved are is.under_way.line is.under_way.wires in
            record {
              end = is.under_way.end;
              time = omega arith;
              small = is.under_way.small;
              made = run;
              records = record_started setting.keeps made state.starts (passage_of frame) time is.under_way.records trace trace_is;
              turn = turns;
              run = subst (λ fs. IsRunSoFar network after setting.gates setting.cycles (free_on fs) time run) (sym free_is) step.0;
              fed = subst (λ fs. IsFedSoFar network setting.gates setting.cycles (free_on fs) time setting.background line run) (sym free_is) step.1;
              tracked = subst (IsTracked network after setting.cycles run) (sym frames_are) step.2;
              line = subst (AreInLine network setting.cycles) (sym frames_are) step.3;
              feed = is.under_way.feed;
              wires = ap length free_is ∙ (length-set state.free.items link (time + duration) ∙ is.under_way.wires);
              numbers = is.under_way.numbers;
              visits = is.under_way.visits;
              frees = subst (All (λ t. t ≤ 2 ^ 40)) (sym free_is) (All-set (λ t. t ≤ 2 ^ 40) state.free.items link (time + duration) (omega arith) is.under_way.frees);
              readies = subst (All (λ (f : Frame). f.ready ≤ 2 ^ 50)) (sym frames_are) early;
            }

        pub started_falls : sum_by (λ t. state.end - t) free.items < sum_by (λ t. state.end - t) state.free.items
        started_falls =
            let soon = in_time in
            let wire = is_next.wire in_time in
            let exists = can.lists.links number no_list below in
            let wires = is.under_way.wires in
            subst (λ fs. sum_by (λ t. state.end - t) fs < sum_by (λ t. state.end - t) state.free.items) (sym free_is)
            (time_falls state.free.items link (time + duration) state.end (omega arith) (omega arith) (omega arith))

        abbrev cases : (p : ℕ) → (waiting ≡ p)
            ⊎ IsOnward network (passage_of (frame_in state.frames.items waiting)) (passage_of (frame_in state.frames.items p))
            ⊎ (frame_in moved p ≡ frame_in state.frames.items p)
        cases = moved_cases network setting.slack state.frames.items waiting time moved are

        -- no hop that continues this one is on the link
        silent : (at : ℕ) → ((hop : ℕ) → hop < hop_count network frame.stream
            → Continues network (route_of network frame.stream) frame.hop hop → at ≡ route_link network frame.stream hop → ⊥)
            → (p : ℕ) → p < length state.frames.items
            → IsOnward network (passage_of (frame_in state.frames.items waiting)) (passage_of (frame_in state.frames.items p))
            → route_link network (frame_in state.frames.items p).stream (frame_in state.frames.items p).hop ≡ at → ⊥
        unfolding passage_of
        silent at none p inside is on =
            let stream : (frame_in state.frames.items p).stream ≡ frame.stream =
            ap (λ (x : Passage). x.stream) is.same ∙ sym (ap (λ (f : Frame). f.stream) frame_is) in
            let hop : (frame_in state.frames.items waiting).hop ≡ frame.hop = sym (ap (λ (f : Frame). f.hop) frame_is) in
            let of : (frame_in state.frames.items waiting).stream ≡ frame.stream = sym (ap (λ (f : Frame). f.stream) frame_is) in
            none (frame_in state.frames.items p).hop (subst (λ i. (frame_in state.frames.items p).hop < hop_count network i) of is.inside)
            (subst (λ k. Continues network (route_of network frame.stream) k (frame_in state.frames.items p).hop) hop
            (subst (λ i. Continues network (route_of network i) (frame_in state.frames.items waiting).hop
            (frame_in state.frames.items p).hop) of is.continues))
            (sym on ∙ ap (λ i. route_link network i (frame_in state.frames.items p).hop) stream)

        -- what waits there stays, and was there
        same_frame : (at : ℕ) → (at ≡ link → ⊥) → (p : ℕ) → p < length state.frames.items
            → Waits network at (frame_in state.frames.items p) → frame_in moved p ≡ frame_in state.frames.items p
        same_frame at away p inside waits = elim (cases p) [
          | inl same ↦ absurd (away
              (sym waits.on ∙ (sym (ap (λ n. route_link network (frame_in state.frames.items n).stream (frame_in state.frames.items n).hop)
              same) ∙ waits_here.on)))
          | inr not_here ↦ elim not_here [
            | inl onward ↦
                let coming = come_coming network can.formed plan setting.gates setting.cycles
                (free_on state.free.items) state.time made is.under_way.run state.frames.items is.under_way.tracked
                is.under_way.line link waiting time can_start_here.0 (is_next.wire in_time) p inside onward in
                let queued = waits.waits in
                absurd cc
            | inr kept ↦ kept
          ]
        ]

        waited_frame : (at : ℕ) → (at ≡ link → ⊥)
            → ((p : ℕ) → p < length state.frames.items
            → IsOnward network (passage_of (frame_in state.frames.items waiting)) (passage_of (frame_in state.frames.items p))
            → route_link network (frame_in state.frames.items p).stream (frame_in state.frames.items p).hop ≡ at → ⊥)
            → (p : ℕ) → p < length state.frames.items → Waits network at (frame_in moved p)
            → Waits network at (frame_in state.frames.items p)
        unfolding passage_of
        waited_frame at away silent_on p inside waits = elim (cases p) [
          | inl same ↦ let gone = gone_stage network setting.slack state.frames.items waiting time moved are p same in
              let queued = waits.waits in absurd cc
          | inr not_here ↦ elim not_here [
            | inl onward ↦
                let passage = same_passage network setting.slack state.frames.items waiting time moved are p inside in
                absurd (silent_on p inside onward (ap (λ (x : Passage). route_link network x.stream x.hop) (sym passage) ∙ waits.on))
            | inr kept ↦ subst (Waits network at) kept waits
          ]
        ]

        pub started_others : (other : ℕ) → other < length setting.gates → (number ≡ other → ⊥)
            → ((hop : ℕ) (d : LinkGates) → hop < hop_count network frame.stream
            → Continues network (route_of network frame.stream) frame.hop hop
            → (get_or setting.gates other d).link ≡ route_link network frame.stream hop → ⊥)
            → IsPortAt setting started other (port_at other)
        started_others other other_below differ none d =
            let at = (get_or setting.gates other d).link in
            let away = apart other d other_below differ in
            let kept = port_kept network state.frames.items moved at are.count (same_frame at away)
            (waited_frame at away (silent at (λ hop below continues same. none hop d below continues same)))
            (get_or setting.gates other d).entries (line at) (max (free_on state.free.items at) state.time) state.end (port_at other)
            (is.ports.each other other_below d) in
            let soon = least other other_below in
            other_later time other d frames.items free.items state.feed forward (omega arith) (ap (λ fs. free_on fs at) free_is ∙ get_or-set_other state.free.items link at (time + duration) 0 away) refl
            (subst (λ fs. IsPort network (get_or setting.gates other d).entries fs (line at) at (max (free_on state.free.items at) state.time) state.end (port_at other)) (sym frames_are) kept)

    -- ---- a background frame

    module _ (port : Port) (port_is : port_at number ≡ port) (order : port.scheduled ≤ port.background → port.head ≡ None) where
      is_port : (d : LinkGates) → IsPort network (get_or setting.gates number d).entries state.frames.items (line (get_or setting.gates number d).link) (get_or setting.gates number d).link
          (max (free_on state.free.items (get_or setting.gates number d).link) state.time) end port
      is_port d = subst (IsPort network (get_or setting.gates number d).entries state.frames.items (line (get_or setting.gates number d).link) (get_or setting.gates number d).link
          (max (free_on state.free.items (get_or setting.gates number d).link) state.time) end) port_is (ports number d below)

      port_soon : port_time port < end
      port_soon = grind arith

      -- the background comes first, since no head could start
      sooner : port.background < port.scheduled
      sooner = elim (cases_lt port.background port.scheduled) [
        | inl less ↦ less
        | inr upto ↦
            let soon = port_soon in
            let here = (is_port no_list).scheduled.here (omega arith) in
            let none : None ≡ Some here.0 = sym (order upto) ∙ here.1 in
            cc
      ]

      port_first : port_time port ≡ port.background
      port_first = grind (arith, time_facts, sooner, le-min)

      abbrev send_next : Next
      send_next = record { link = link; time = port.background; frame = None }

      is_send_next : IsNextOf network setting.gates state.frames.items line state.free.items state.time end send_next
      is_send_next = subst (λ (p : Port). p.background < p.scheduled → IsNextOf network setting.gates state.frames.items line state.free.items state.time end (record { link = link; time = p.background; frame = None })) port_is
          (next_background network setting.gates can.lists state.frames.items line state.free.items state.time end port_at ports number no_list below least) sooner

      pub send_in_time : port.background < end
      send_in_time = let soon = port_soon in let at = port_first in omega arith

      module _ (waiting : Waiting) (waits : line link ≡ Some waiting) where
        pub given : IsGiven network link waiting
        given = line_given network setting.gates setting.cycles (free_on state.free.items) state.time line made setting.background can.background is.under_way.fed link (can.lists.links number no_list below) waiting waits

        module _ (until : ℕ) (until_is : until ≡ port.background + (waiting.octets + 20) * (link_at network link).octet_time) (some : 1 ≤ (link_at network link).octet_time) (few : (link_at network link).octet_time ≤ 800) where
          pub until_short : (port.background < until) × (until ≤ port.background + 1542 * 800)
          until_short = grind (arith, given, mul-le-mul, mul-pos)

          pub send_still : (d : LinkGates) → until ≤ port.scheduled → IsScheduledNext network (get_or setting.gates number d).entries state.frames.items port.head until state.end port.scheduled
          send_still d upto =
              let short = until_short in
              let from = (is_port d).background.forward in
              subst (λ n. IsScheduledNext network (get_or setting.gates number d).entries state.frames.items port.head until n port.scheduled) (sym is.under_way.end)
              (scheduled_later network (get_or setting.gates number d).entries state.frames.items port.head (max (free_on state.free.items (get_or setting.gates number d).link) state.time) until end port.scheduled (omega arith) upto (is_port d).scheduled)

          module _ (trace : BridgeRun) (trace_is : trace ≡ noted setting.keeps state.starts (record { link = waiting.link; time = port.background; octets = waiting.octets; number = waiting.number })) (feed : Feed)
              (feed_is : IsFeedOf setting.background (length network.links) feed) (others : (m : ℕ) → (m ≡ link → ⊥) → waiting_on feed m ≡ line m) (follows : IsSent setting.background (line link) (waiting_on feed link))
              (free : Vec ℕ Global) (free_is : free.items ≡ slice_set state.free.items link until) where
            abbrev sent : State
            sent = record state { time = port.background; free = free; feed = feed; starts = trace }

            -- the run with that start, which is on this link
            abbrev run_with : BridgeRun
            run_with = with_background made (record { link = link; time = port.background; octets = waiting.octets; number = waiting.number })

            run_at : with_background made (record { link = waiting.link; time = port.background; octets = waiting.octets; number = waiting.number }) ≡ run_with
            run_at = ap (λ l. with_background made (record { link = l; time = port.background; octets = waiting.octets; number = waiting.number })) given.on

            pub sent_under_way : IsUnderWay setting sent
            sent_under_way =
                let limit = is.under_way.small in
                let soon = send_in_time in
                let short = until_short in
                let upto = short.1 in
                let run = send_run network can.formed can.spaced plan setting.gates can.lists setting.cycles setting.background can.background
                line state.time state.free.items made state.frames.items is.under_way.run is.under_way.fed is.under_way.tracked
                send_next is_send_next send_in_time refl waiting waits until until_is is.under_way.wires in
                let fed = send_fed network can.formed can.spaced plan setting.gates can.lists setting.cycles setting.background can.background
                line state.time state.free.items made state.frames.items is.under_way.run is.under_way.fed is.under_way.tracked
                send_next is_send_next send_in_time refl waiting waits until until_is is.under_way.wires (waiting_on feed) others follows in
                record {
                  end = is.under_way.end;
                  time = omega arith;
                  small = is.under_way.small;
                  made = run_with;
                  records = subst (λ r. IsRecord setting.keeps r trace) run_at
                      (record_sent setting.keeps made state.starts (record { link = waiting.link; time = port.background; octets = waiting.octets; number = waiting.number }) is.under_way.records trace trace_is);
                  turn = is.under_way.turn;
                  run = subst (λ fs. IsRunSoFar network plan setting.gates setting.cycles (free_on fs) port.background run_with) (sym free_is) run;
                  fed = subst (λ fs. IsFedSoFar network setting.gates setting.cycles (free_on fs) port.background setting.background (waiting_on feed) run_with) (sym free_is) fed;
                  tracked = still_tracked network plan setting.cycles made state.frames.items
                      (record { link = link; time = port.background; octets = waiting.octets; number = waiting.number }) is.under_way.tracked;
                  line = is.under_way.line;
                  feed = feed_is;
                  wires = ap length free_is ∙ (length-set state.free.items link until ∙ is.under_way.wires);
                  numbers = is.under_way.numbers;
                  visits = is.under_way.visits;
                  frees = subst (All (λ t. t ≤ 2 ^ 40)) (sym free_is) (All-set (λ t. t ≤ 2 ^ 40) state.free.items link until (omega arith) is.under_way.frees);
                  readies = is.under_way.readies;
                }

            free_here : free_on free.items link ≡ until
            free_here = grind (arith, below, get_or-set_same)

            -- with the port of its link made anew
            module _ (new : Port) (new_is : (d : LinkGates) → IsPort network (get_or setting.gates number d).entries state.frames.items (waiting_on feed (get_or setting.gates number d).link) (get_or setting.gates number d).link until state.end new)
                (all : List Port) (all_are : all ≡ slice_set state.ports number new) where
              sent_port : (d : LinkGates) → IsPort network (get_or setting.gates number d).entries state.frames.items (waiting_on feed (get_or setting.gates number d).link) (get_or setting.gates number d).link
                  (max (free_on free.items (get_or setting.gates number d).link) port.background) state.end new
              sent_port d =
                  let at : free_on free.items (get_or setting.gates number d).link ≡ until = ap (free_on free.items) (link_is number d below) ∙ free_here in
                  let short = until_short in
                  let least_of = le-max_left (free_on free.items (get_or setting.gates number d).link) port.background in
                  let most : max (free_on free.items (get_or setting.gates number d).link) port.background ≤ until = max-le (omega arith) (omega arith) in
                  let same : until ≡ max (free_on free.items (get_or setting.gates number d).link) port.background = omega arith in
                  subst (λ n. IsPort network (get_or setting.gates number d).entries state.frames.items (waiting_on feed (get_or setting.gates number d).link) (get_or setting.gates number d).link n state.end new) same (new_is d)

              sent_other : (other : ℕ) → other < length setting.gates → (number ≡ other → ⊥) → IsPortAt setting sent other (port_at other)
              sent_other other other_below differ d =
                  let at = (get_or setting.gates other d).link in
                  let away = apart other d other_below differ in
                  let soon = least other other_below in
                  let here : port_time (port_at number) ≡ port_time port = ap port_time port_is in
                  let now = port_first in
                  other_later port.background other d state.frames.items free.items feed is_send_next.forward (omega arith) (ap (λ fs. free_on fs at) free_is ∙ get_or-set_other state.free.items link at until 0 away) (others at away)
                  (is.ports.each other other_below d)

              pub sent_state : IsState setting (record sent { ports = all })
              sent_state = record {
                under_way = under_way_ports setting sent all sent_under_way;
                ports = record {
                  count = ap length all_are ∙ (length-set state.ports number new ∙ is.ports.count);
                  each = λ other other_below. elim (cases_eq number other) [
                    | inl same ↦ grind (arith, port_set_same, below, sent_port)
                    | inr differ ↦ grind (arith, port_set_other, sent_other)
                  ];
                };
              }

            pub sent_falls : sum_by (λ t. state.end - t) free.items < sum_by (λ t. state.end - t) state.free.items
            sent_falls =
                let soon = send_in_time in
                let short = until_short in
                let longer = short.0 in
                let wire = is_send_next.wire send_in_time in
                let exists = can.lists.links number no_list below in
                let wires = is.under_way.wires in
                subst (λ fs. sum_by (λ t. state.end - t) fs < sum_by (λ t. state.end - t) state.free.items) (sym free_is)
                (time_falls state.free.items link until state.end (omega arith) (omega arith) (omega arith))
