-- One step of a replay: the time until the next start passes, and it starts.
use Rattle.std.proofs.Common.{◌≡◌, ℕ, ◌+◌, ◌-◌, ◌*◌, ◌≤◌, ◌<◌, List, [], ◌^◌, Option, length, get_or, slice_set, replicate, Some, None, sum_by, refl, sym, ap, ◌∙◌, subst, arith, inl, inr}
use Rattle.std.proofs.lemmas.List.{get_or-set_same, get_or-set_other, get_or_default, get_or-replicate, length-replicate}
use Rattle.std.proofs.Math.ListN.{get_or-eq_default}
use Rattle.std.proofs.lemmas.Bool.{cases_eq}
use Rattle.std.proofs.lemmas.List.Sums.{sum_by-set}
use Rattle.std.proofs.lemmas.List.Elements.{All-nil}
use Rattle.tsn_model.proofs.Lists.{Contains-nil}
use Rattle.tsn_model.specs.Network.{Network, IsWellFormed, link_at}
use Rattle.tsn_model.specs.Timing.{occupancy}
use Rattle.tsn_model.specs.Bridge.{LinkGates, BackgroundOpen, Passage, IsPassage, IsReady, BackgroundStart, BackgroundFrame, Background, BridgeRun, wire_uses, link_of, length_of, IsTaken, frame_at, IsBridgeRun, IsFed}
use Rattle.tsn_model.specs.Early.{IsEarlyRun}
use Rattle.tsn_model.specs.Timing.{hop_delay}
use Rattle.tsn_model.specs.Network.{route_link}
use Rattle.tsn_model.specs.Bridge.Background.{nothing, greedy, frames as listed}
use Rattle.tsn_replay.specs.declared.queue.Frame.{Frame}
use Rattle.tsn_replay.specs.declared.feed.Waiting.{Waiting}
use Rattle.tsn_replay.specs.Openings.{HasLists, HasBackground}
use Rattle.tsn_replay.specs.Queue.{IsSilent, Next, CanStart, IsNextOf, AreInLine, frame_in, passage_of, free_on}
use Rattle.tsn_replay.specs.declared.queue.Stage.TheVariants.{Coming}
use Rattle.tsn_replay.specs.Frames.{AreSpaced}
use Rattle.tsn_replay.specs.Progress.{Turn, Plan, IsTurn, AreMoved, IsOnward, with_turns, IsRunSoFar, IsFedSoFar, IsFrame, IsTracked, IsQuiet, IsDue, IsBackgroundDue, IsListSoFar}
use Rattle.tsn_replay.specs.Feeding.{waiting_at, no_start, greatest_on, IsOfList, IsLine, IsFirstOn, IsSent}
use Rattle.tsn_replay.proofs.Progress.{Extends, time_passes, greedy_passes, run_ends, greedy_ends}
use Rattle.tsn_replay.proofs.PassageStarts.{with_passage, passage_begins, passage_extends, passage_greedy}
use Rattle.tsn_replay.proofs.BackgroundStarts.{with_background, background_begins, background_extends, background_greedy}
use Rattle.tsn_replay.proofs.Lines.{list_passes, list_kept, list_sent, line_other, line_sent, list_ends}
use Rattle.tsn_replay.proofs.Nexts.{waiting_link}
use Rattle.tsn_replay.proofs.Tracking.{quiet_from_silent, due_from_head, exact_ends}
use Rattle.tsn_replay.proofs.Advances.{next_turns, turns_after, next_is_turn, next_is_later, tracked_next}
use Rattle.tsn_replay.proofs.InLine.{line_kept}

-- a frame that waits is one that was handed in
pub record IsGiven (network : Network) (link : ℕ) (waiting : Waiting) : Type 0 where
  pub on : waiting.link ≡ link
  pub short : waiting.octets ≤ 1522
  pub early : waiting.wanted ≤ 2 ^ 50

listed_given : (network : Network) (gates : List LinkGates) (list : List BackgroundFrame) → HasBackground network gates (listed list) → (link : ℕ) (waiting : Waiting) → IsOfList list link waiting → IsGiven network link waiting
unfolding waiting_at
listed_given network gates list given link waiting of =
    let frame = given waiting.number of.listed in
    let octets = ap (λ (w : Waiting). w.octets) of.is in
    let wanted = ap (λ (w : Waiting). w.wanted) of.is in
    let short = frame.short in
    let early = frame.early in
    record { on = of.on; short = omega arith; early = omega arith }

pub line_given : (network : Network) (gates : List LinkGates) (cycles : ℕ) (free : ℕ → ℕ) (now : ℕ) (line : ℕ → Option Waiting) (run : BridgeRun) (background : Background) → HasBackground network gates background
    → IsFedSoFar network gates cycles free now background line run → (link : ℕ) → link < length network.links → (waiting : Waiting) → line link ≡ Some waiting → IsGiven network link waiting
line_given network gates cycles free now line run nothing given fed link exists waiting first = let none : None ≡ Some waiting = sym (fed.1 link exists) ∙ first in cc
line_given network gates cycles free now line run greedy given fed link exists waiting first =
    let some : Some waiting ≡ Some (greatest_on link) = sym first ∙ fed.1 link exists in
    let same : waiting ≡ greatest_on link = cc some in
    let octets = ap (λ (w : Waiting). w.octets) same in
    let wanted = ap (λ (w : Waiting). w.wanted) same in
    record { on = ap (λ (w : Waiting). w.link) same; short = omega arith; early = omega arith }
line_given network gates cycles free now line run (listed list) given fed link exists waiting first =
    listed_given network gates list given link waiting (subst (IsLine list run link) first (fed.1 link exists)).0

length_at : (network : Network) (frame : Frame) → occupancy network frame.stream (link_of network (passage_of frame)) ≡ length_of network (passage_of frame)
unfolding length_of link_of passage_of
length_at network frame = refl

module _ (network : Network) (formed : IsWellFormed network) (spaced : AreSpaced network) (plan : Plan) (gates : List LinkGates)
    (lists : HasLists network gates) (cycles : ℕ) (background : Background) (given : HasBackground network gates background) (line : ℕ → Option Waiting)
    (now : ℕ) (free : List ℕ) (run : BridgeRun) (frames : List Frame)
    (so_far : IsRunSoFar network plan gates cycles (free_on free) now run) (fed : IsFedSoFar network gates cycles (free_on free) now background line run)
    (tracked : IsTracked network plan cycles run frames)
    (next : Next) (is : IsNextOf network gates frames line free now (cycles * network.cycle) next) where
  quiet_until : (t : ℕ) → now ≤ t → t < next.time → t < cycles * network.cycle → (link : ℕ) → free_on free link ≤ t
      → IsQuiet network plan gates cycles t run link
  unfolding link_of
  quiet_until t present before in_time link open' = record {
    blocked = λ q ready passage on is_ready since none.
        let used = lists.used q.stream q.hop passage.stream passage.hop in
        let listed : (get_or gates used.0 (record { link = 0; entries = [] })).link ≡ link = used.2 (record { link = 0; entries = [] }) ∙ on in
        let idle = is.idle t used.0 (record { link = 0; entries = [] }) present before in_time used.1 (subst (λ l. free_on free l ≤ t) (sym listed) open') in
        (quiet_from_silent network formed plan gates cycles (free_on free) now run spaced so_far frames tracked link t present
        (subst (λ l. IsSilent network gates frames l t) listed idle.scheduled)).blocked q ready passage on is_ready since none;
  }

  passed : (later : ℕ) → now ≤ later → later ≤ next.time → IsRunSoFar network plan gates cycles (free_on free) later run
  passed later forward upto = time_passes network plan gates cycles (free_on free) now later run forward so_far
      (λ t present soon in_time link open'. quiet_until t present (omega arith) in_time link open')

  closed_until : (t : ℕ) → now ≤ t → t < next.time → t < cycles * network.cycle → (number : ℕ) (d : LinkGates) → number < length gates → free_on free (get_or gates number d).link ≤ t
      → (waiting : Waiting) → line (get_or gates number d).link ≡ Some waiting → waiting.wanted ≤ t → BackgroundOpen gates (get_or gates number d).link t → ⊥
  closed_until t present before in_time number d below open' = (is.idle t number d present before in_time below open').background

  fed_passed : (later : ℕ) → now ≤ later → later ≤ next.time → IsFedSoFar network gates cycles (free_on free) later background line run
  fed_passed later forward upto = passes background given fed where
    passes : (b : Background) → HasBackground network gates b → IsFedSoFar network gates cycles (free_on free) now b line run → IsFedSoFar network gates cycles (free_on free) later b line run
    passes nothing frames_given before = before
    passes greedy frames_given (before, always) = (
      greedy_passes network plan gates cycles (free_on free) now later run forward before
          (λ t present soon in_time k d below open'. closed_until t present (omega arith) in_time k d below open' (greatest_on (get_or gates k d).link) (always (get_or gates k d).link (lists.links k d below)) (omega arith)),
      always,
    )
    passes (listed list) frames_given (before, lines) = (
      list_passes network formed plan gates cycles (free_on free) now run so_far list before later
          (λ number t below present soon in_time open'.
          let frame = frames_given number below in
          let at = frame.listed in
          let none : LinkGates = record { link = 0; entries = [] } in
          let same = at.2 none in (
            line (frame_at list number).link,
            lines (frame_at list number).link frame.exists,
            λ waiting first wanted opened. closed_until t present (omega arith) in_time at.0 none at.1 (subst (λ l. free_on free l ≤ t) (sym same) open')
                waiting (subst (λ l. line l ≡ Some waiting) (sym same) first) wanted (subst (λ l. BackgroundOpen gates l t) (sym same) opened),
          )),
      lines,
    )

  -- where nothing starts before the end the run is whole
  pub ends_run : now ≤ cycles * network.cycle → cycles * network.cycle ≤ next.time
      → IsEarlyRun network plan.offsets gates cycles (λ link. plan.slack) (λ p. (plan.turn p).ready) run
  ends_run forward late = run_ends network plan gates cycles (free_on free) run (passed (cycles * network.cycle) forward late)

  pub ends_exact : plan.slack ≡ 0 → now ≤ cycles * network.cycle → cycles * network.cycle ≤ next.time → IsBridgeRun network plan.offsets gates cycles run
  ends_exact exact forward late =
      exact_ends network formed plan gates cycles (free_on free) (cycles * network.cycle) run spaced (passed (cycles * network.cycle) forward late) exact refl

  pub ends_fed : now ≤ cycles * network.cycle → cycles * network.cycle ≤ next.time → IsFed network gates cycles background run
  ends_fed forward late = fed_ends background (fed_passed (cycles * network.cycle) forward late) where
    fed_ends : (b : Background) → IsFedSoFar network gates cycles (free_on free) (cycles * network.cycle) b line run → IsFed network gates cycles b run
    fed_ends nothing before = before.0
    fed_ends greedy before = greedy_ends network gates cycles (free_on free) run before.0
    fed_ends (listed list) before = list_ends network gates cycles list (free_on free) run before.0

  module _ (in_time : next.time < cycles * network.cycle) where
    here_so_far : IsRunSoFar network plan gates cycles (free_on free) next.time run
    here_so_far = passed next.time is.forward (omega arith)

    here_fed : IsFedSoFar network gates cycles (free_on free) next.time background line run
    here_fed = fed_passed next.time is.forward (omega arith)

    -- a scheduled frame
    module _ (number : ℕ) (frame_is : next.frame ≡ Some number) where
      pub can_start : CanStart network gates frames line next (Some number)
      can_start = subst (CanStart network gates frames line next) frame_is (is.can in_time)

      abbrev due_at : ℕ
      due_at = ((tracked.each number can_start.0.0).ready can_start.0.1.waits).0

      due : IsDue network plan gates cycles (free_on free) next.time run (passage_of (frame_in frames number)) due_at
      due = due_from_head network formed plan gates cycles (free_on free) next.time run spaced here_so_far frames tracked next.link number next.time
          (omega arith) in_time (is.wire in_time) can_start.0 can_start.1 can_start.2

      on : link_of network (passage_of (frame_in frames number)) ≡ next.link
      on = waiting_link network next.link (frame_in frames number) can_start.0.1

      module _ (until : ℕ) (until_is : until ≡ next.time + length_of network (passage_of (frame_in frames number))) (wires : length free ≡ length network.links)
          (moved : List Frame) (are : AreMoved network plan.slack frames number next.time moved)
          (in_line : AreInLine network cycles frames) where
        -- the turns with those of the frame on its next hops
        abbrev turns : Passage → Turn
        turns = turns_after network plan cycles frames moved number

        abbrev next_turn : Passage → Turn
        next_turn = next_turns network cycles frames moved number

        next_is : (q : Passage) → IsOnward network (passage_of (frame_in frames number)) q
            → IsTurn plan.slack (next.time + hop_delay network (passage_of (frame_in frames number)).stream
            (route_link network (passage_of (frame_in frames number)).stream (passage_of (frame_in frames number)).hop))
            (passage_of (frame_in frames number)).stream (next_turn q)
        next_is = next_is_turn network formed plan gates cycles
            (free_on free) next.time run here_so_far frames moved tracked in_line number can_start.0.0 due_at due are

        later_turn : (q : Passage) → IsOnward network (passage_of (frame_in frames number)) q → next.time < (next_turn q).ready
        later_turn = next_is_later network formed plan gates cycles
            (free_on free) next.time run here_so_far frames moved tracked in_line number can_start.0.0 due_at due are

        set_here : free_on (slice_set free next.link until) (link_of network (passage_of (frame_in frames number))) ≡ next.time + length_of network (passage_of (frame_in frames number))
        set_here = grind (arith, on, get_or-set_same)

        set_elsewhere : (m : ℕ) → (m ≡ link_of network (passage_of (frame_in frames number)) → ⊥) → free_on (slice_set free next.link until) m ≡ free_on free m
        set_elsewhere m differ = get_or-set_other free next.link m until 0 (λ same. differ (same ∙ sym on))

        pub passage_run : IsRunSoFar network (with_turns plan turns) gates cycles (free_on (slice_set free next.link until)) next.time
            (with_passage run (passage_of (frame_in frames number)) next.time)
        passage_run = passage_begins network formed plan gates cycles (free_on free)
            (free_on (slice_set free next.link until)) next.time run here_so_far
            (passage_of (frame_in frames number)) due_at due next_turn next_is later_turn set_here set_elsewhere

        passage_busy : (m t : ℕ) → next.time ≤ t → t < free_on (slice_set free next.link until) m → IsTaken network (with_passage run (passage_of (frame_in frames number)) next.time) m t
        passage_busy = passage_run.busy

        fed_passage : (b : Background) → IsFedSoFar network gates cycles (free_on free) next.time b line run
            → IsFedSoFar network gates cycles (free_on (slice_set free next.link until)) next.time b line (with_passage run (passage_of (frame_in frames number)) next.time)
        fed_passage nothing before = before
        fed_passage greedy (before, always) = (
          passage_greedy network formed plan gates cycles (free_on free)
              (free_on (slice_set free next.link until)) next.time run here_so_far
              (passage_of (frame_in frames number)) due_at due next_turn next_is later_turn set_here set_elsewhere before,
          always,
        )
        fed_passage (listed list) (before, lines) = (
          list_kept network formed plan gates cycles (free_on free) next.time run here_so_far
              (with_passage run (passage_of (frame_in frames number)) next.time) (free_on (slice_set free next.link until))
              (passage_extends network formed plan gates cycles (free_on free)
              (free_on (slice_set free next.link until)) next.time run here_so_far
              (passage_of (frame_in frames number)) due_at due next_turn next_is later_turn set_here set_elsewhere)
              passage_busy list before refl,
          lines,
        )

        pub passage_fed : IsFedSoFar network gates cycles (free_on (slice_set free next.link until)) next.time background line (with_passage run (passage_of (frame_in frames number)) next.time)
        passage_fed = fed_passage background here_fed

        pub passage_tracked : IsTracked network (with_turns plan turns) cycles
            (with_passage run (passage_of (frame_in frames number)) next.time) moved
        passage_tracked = tracked_next network formed plan gates cycles
            (free_on free) next.time run here_so_far frames moved tracked in_line number can_start.0.0 due_at due are

        pub passage_line : AreInLine network cycles moved
        passage_line = line_kept network formed plan gates cycles
            (free_on free) next.time run here_so_far frames tracked in_line next.link number next.time can_start.0
            (is.wire in_time) moved are

      pub length_is : (duration : ℕ) → duration ≡ occupancy network (frame_in frames number).stream next.link
          → next.time + duration ≡ next.time + length_of network (passage_of (frame_in frames number))
      length_is duration is_duration = ap (λ n. next.time + n) (is_duration ∙ (ap (occupancy network (frame_in frames number).stream) (sym on) ∙ length_at network (frame_in frames number)))

      -- the state after it, from what the program computed
      pub passage_step : (frame : Frame) → frame ≡ frame_in frames number → (trace : BridgeRun) → trace ≡ with_passage run (passage_of frame) next.time
          → (duration : ℕ) → duration ≡ occupancy network frame.stream next.link
          → (moved : List Frame) → AreMoved network plan.slack frames number next.time moved → AreInLine network cycles frames
          → length free ≡ length network.links
          → IsRunSoFar network (with_turns plan (turns_after network plan cycles frames moved number)) gates cycles
          (free_on (slice_set free next.link (next.time + duration))) next.time trace
          × IsFedSoFar network gates cycles (free_on (slice_set free next.link (next.time + duration))) next.time background line trace
          × IsTracked network (with_turns plan (turns_after network plan cycles frames moved number)) cycles trace moved
          × AreInLine network cycles moved
      passage_step frame same trace trace_is duration is_duration moved are in_line wires =
          let duration_at : duration ≡ occupancy network (frame_in frames number).stream next.link = is_duration ∙ ap
          (λ (f : Frame). occupancy network f.stream next.link) same in
          let until = length_is duration duration_at in
          let after = with_turns plan (turns_after network plan cycles frames moved number) in
          let run_is : trace ≡ with_passage run (passage_of (frame_in frames number)) next.time =
          trace_is ∙ ap (λ (f : Frame). with_passage run (passage_of f) next.time) same in (
            subst (IsRunSoFar network after gates cycles (free_on (slice_set free next.link (next.time + duration))) next.time)
                (sym run_is) (passage_run (next.time + duration) until wires moved are in_line),
            subst (IsFedSoFar network gates cycles (free_on (slice_set free next.link (next.time + duration))) next.time background line)
                (sym run_is) (passage_fed (next.time + duration) until wires moved are in_line),
            subst (λ r. IsTracked network after cycles r moved) (sym run_is)
                (passage_tracked (next.time + duration) until wires moved are in_line),
            passage_line (next.time + duration) until wires moved are in_line,
          )

    -- a background frame
    module _ (frame_is : next.frame ≡ None) (waiting : Waiting) (first : line next.link ≡ Some waiting) (until : ℕ) (until_is : until ≡ next.time + (waiting.octets + 20) * (link_at network next.link).octet_time) (wires : length free ≡ length network.links) where
      can_send : CanStart network gates frames line next None
      can_send = subst (CanStart network gates frames line next) frame_is (is.can in_time)

      -- the frame that waits is the one that can start
      wanted : waiting.wanted ≤ next.time
      wanted = grind (arith, can_send)

      send_due : IsBackgroundDue network plan gates cycles (free_on free) next.time run next.link
      send_due = record {
        wire = is.wire in_time;
        in_time = in_time;
        opened = can_send.1;
        quiet = quiet_from_silent network formed plan gates cycles (free_on free) next.time run spaced here_so_far frames tracked next.link next.time
            (omega arith) can_send.2;
      }

      sent_here : free_on (slice_set free next.link until) next.link ≡ next.time + (waiting.octets + 20) * (link_at network next.link).octet_time
      sent_here = let exists = is.link in_time in get_or-set_same free next.link until 0 (omega arith) ∙ until_is

      sent_elsewhere : (m : ℕ) → (m ≡ next.link → ⊥) → free_on (slice_set free next.link until) m ≡ free_on free m
      sent_elsewhere m differ = get_or-set_other free next.link m until 0 differ

      abbrev sent : BridgeRun
      sent = with_background run (record { link = next.link; time = next.time; octets = waiting.octets; number = waiting.number })

      is_given : IsGiven network next.link waiting
      is_given = line_given network gates cycles (free_on free) next.time line run background given here_fed next.link (is.link in_time) waiting first

      pub send_run : IsRunSoFar network plan gates cycles (free_on (slice_set free next.link until)) next.time sent
      send_run = background_begins network plan gates cycles (free_on free)
          (free_on (slice_set free next.link until)) next.time run here_so_far next.link waiting.octets waiting.number send_due is_given.short sent_here sent_elsewhere

      send_extends : Extends network run sent next.time
      send_extends = background_extends network plan gates cycles (free_on free)
          (free_on (slice_set free next.link until)) next.time run here_so_far next.link waiting.octets waiting.number send_due is_given.short sent_here sent_elsewhere

      module _ (line' : ℕ → Option Waiting) (others : (m : ℕ) → (m ≡ next.link → ⊥) → line' m ≡ line m) (follows : IsSent background (line next.link) (line' next.link)) where
        fed_send : (b : Background) → IsFedSoFar network gates cycles (free_on free) next.time b line run → IsSent b (line next.link) (line' next.link)
            → IsFedSoFar network gates cycles (free_on (slice_set free next.link until)) next.time b line' sent
        fed_send nothing (before, never) still = let none : None ≡ Some waiting = sym (never next.link (is.link in_time)) ∙ first in cc
        fed_send greedy (before, always) still = (
          background_greedy network plan gates cycles (free_on free) (free_on
              (slice_set free next.link until)) next.time run here_so_far next.link waiting.octets waiting.number send_due is_given.short sent_here sent_elsewhere greatest before,
          λ m exists. (grind arith),
        ) where
          greatest : waiting.octets ≡ 1522
          greatest =
              let some : Some waiting ≡ Some (greatest_on next.link) = sym first ∙ always next.link (is.link in_time) in
              let same : waiting ≡ greatest_on next.link = cc some in
              ap (λ (w : Waiting). w.octets) same
        fed_send (listed list) (before, lines) still = (
          subst (λ l. IsListSoFar network gates cycles list (free_on (slice_set free next.link until)) next.time (with_background run (record { link = l; time = next.time; octets = waiting.octets; number = waiting.number }))) is_given.on
              (list_sent network formed plan gates cycles (free_on free) next.time run here_so_far list before next.link
              (is.link in_time) waiting in_line wanted (is.wire in_time) (free_on (slice_set free next.link until))
              (subst (λ l. Extends network run (with_background run (record { link = l; time = next.time; octets = waiting.octets; number = waiting.number })) next.time) (sym is_given.on) send_extends)
              (subst (λ l. (m t : ℕ) → next.time ≤ t → t < free_on (slice_set free next.link until) m → IsTaken network (with_background run (record { link = l; time = next.time; octets = waiting.octets; number = waiting.number })) m t) (sym is_given.on) send_run.busy)),
          λ m exists. elim (cases_eq m next.link) [
            | inl same ↦ subst (λ l. IsLine list sent l (line' l)) (sym same)
                (subst (λ l. IsLine list (with_background run (record { link = l; time = next.time; octets = waiting.octets; number = waiting.number })) next.link (line' next.link)) is_given.on
                (line_sent network formed plan gates cycles (free_on free) next.time run here_so_far list before next.link
                (is.link in_time) waiting in_line wanted (is.wire in_time) (free_on (slice_set free next.link until))
                (line' next.link) (still waiting first)))
            | inr differ ↦ subst (IsLine list sent m) (sym (others m differ))
                (subst (λ l. IsLine list (with_background run (record { link = l; time = next.time; octets = waiting.octets; number = waiting.number })) m (line m)) is_given.on
                (line_other network formed plan gates cycles (free_on free) next.time run here_so_far list before next.link
                (is.link in_time) waiting in_line wanted (is.wire in_time) (free_on (slice_set free next.link until))
                m differ (line m) (lines m exists)))
          ],
        ) where
          in_line : IsLine list run next.link (Some waiting)
          in_line = subst (IsLine list run next.link) first (lines next.link (is.link in_time))

        pub send_fed : IsFedSoFar network gates cycles (free_on (slice_set free next.link until)) next.time background line' sent
        send_fed = fed_send background here_fed follows

-- each start takes a wire for longer than before, so the time that is left on the wires falls
pub time_falls : (free : List ℕ) (link until end : ℕ) → link < length free → free_on free link < end → free_on free link < until → sum_by (λ time. end - time) (slice_set free link until) < sum_by (λ time. end - time) free
time_falls free link until end below before longer = let sums = sum_by-set (λ (time : ℕ). end - time) free link until 0 below in omega arith

-- ---- the beginning

pub no_run : (network : Network) (plan : Plan) (gates : List LinkGates) (cycles : ℕ) (free : List ℕ) → ((link : ℕ) → free_on free link ≡ 0)
    → ((q : Passage) (due : ℕ) → IsPassage network cycles q → IsReady network plan.offsets no_start q due → IsTurn plan.slack due q.stream (plan.turn q))
    → IsRunSoFar network plan gates cycles (free_on free) 0 no_start
unfolding wire_uses
no_run network plan gates cycles free empty turns = grind (arith, All-nil, Contains-nil, turns)

no_list : (network : Network) (gates : List LinkGates) (cycles : ℕ) (free : List ℕ) → ((link : ℕ) → free_on free link ≡ 0) → (list : List BackgroundFrame) → IsListSoFar network gates cycles list (free_on free) 0 no_start
no_list network gates cycles free empty list = grind (arith, All-nil, wanted)

pub no_fed : (network : Network) (gates : List LinkGates) (cycles : ℕ) (free : List ℕ) → ((link : ℕ) → free_on free link ≡ 0) → (background : Background) (line : ℕ → Option Waiting)
    → ((link : ℕ) → link < length network.links → IsFirstOn background link (line link)) → IsFedSoFar network gates cycles (free_on free) 0 background line no_start
no_fed network gates cycles free empty nothing line first = (refl, first)
no_fed network gates cycles free empty greedy line first = (
  grind (arith, All-nil),
  first,
)
no_fed network gates cycles free empty (listed list) line first = (no_list network gates cycles free empty list, first)

-- ---- readings

pub read_frame : (frames : List Frame) (number : ℕ) (frame : Frame) → number < length frames → frame ≡ get_or frames number frame → frame ≡ frame_in frames number
unfolding frame_in
read_frame frames number frame below is =
    is ∙ get_or_default frames number frame
    (record { stream = 0; hop = 0; shift = 0; cycle = 0; stage = Coming; ready = 0; rank = 0 }) below

still_frame : (network : Network) (plan : Plan) (cycles : ℕ) (run : BridgeRun) (frame : Frame) (begun : BackgroundStart)
    → IsFrame network plan cycles run frame → IsFrame network plan cycles (with_background run begun) frame
still_frame network plan cycles run frame begun is = grind arith

-- a background start changes nothing for the frames
pub still_tracked : (network : Network) (plan : Plan) (cycles : ℕ) (run : BridgeRun) (frames : List Frame) (begun : BackgroundStart)
    → IsTracked network plan cycles run frames → IsTracked network plan cycles (with_background run begun) frames
still_tracked network plan cycles run frames begun tracked = record {
  each = λ number below. still_frame network plan cycles run
      (frame_in frames number) begun (tracked.each number below);
  complete = tracked.complete;
  distinct = tracked.distinct;
}

pub zeros : (n link : ℕ) → free_on (replicate n 0) link ≡ 0
zeros n link = grind (arith, get_or-replicate, replicate, length-replicate, get_or-eq_default)
