-- What starts next, from the ports of all lists.
use Rattle.std.proofs.Common.{◌≡◌, ◌≢◌, ℕ, ◌≤◌, ◌<◌, List, max, length, get_or, Option, Some, None, sym, subst, arith}
use Rattle.std.specs.List.{AllPairs}
use Rattle.std.proofs.Math.Nat.{max-le, min-le_left, min-le_right}
use Rattle.tsn_model.specs.Network.{Network}
use Rattle.tsn_model.specs.Bridge.{LinkGates, BackgroundOpen, link_of}
use Rattle.tsn_replay.specs.declared.queue.Frame.{Frame}
use Rattle.tsn_replay.specs.declared.feed.Waiting.{Waiting}
use Rattle.tsn_replay.specs.declared.port.Port.{Port}
use Rattle.tsn_replay.specs.Openings.{HasLists, OpensBackground}
use Rattle.tsn_replay.specs.Queue.{Waits, IsHead, IsSilent, CanStart, IsIdle, IsNextOf, frame_in, passage_of, free_on}
use Rattle.tsn_replay.specs.Ports.{IsPort, port_time}
use Rattle.tsn_replay.proofs.Listed.{opens_less, opens_more, fits_less, fits_more}

-- a waiting frame's passage is on its link
pub waiting_link : (network : Network) (link : ℕ) (frame : Frame) → Waits network link frame → link_of network (passage_of frame) ≡ link
unfolding link_of passage_of
waiting_link network link frame waits = waits.on

-- the lesser of the two instants
pub time_facts : (port : Port) → (port_time port ≤ port.scheduled) × (port_time port ≤ port.background)
time_facts port = (min-le_left port.scheduled port.background, min-le_right port.scheduled port.background)

module _ (network : Network) (gates : List LinkGates) (distinct : AllPairs (λ (a b : LinkGates). a.link ≢ b.link) gates) (frames : List Frame) (line : ℕ → Option Waiting) (number : ℕ) (d : LinkGates) (below : number < length gates)
    (free now end : ℕ) (port : Port) (is : IsPort network (get_or gates number d).entries frames (line (get_or gates number d).link) (get_or gates number d).link (max free now) end port) where
  head_link : (p : ℕ) → port.head ≡ Some p → link_of network (passage_of (frame_in frames p)) ≡ (get_or gates number d).link
  head_link p at = waiting_link network (get_or gates number d).link (frame_in frames p) (subst (IsHead network frames (get_or gates number d).link) at is.head).1

  -- from the free wire on nothing scheduled starts before its instant, and nothing of the background before its own
  silent_before : (t : ℕ) → max free now ≤ t → t < port.scheduled → t < end → IsSilent network gates frames (get_or gates number d).link t
  silent_before t since before in_time = record {
    head = port.head;
    is_head = is.head;
    closed = λ p at ready fits. is.scheduled.none p t at since ready before in_time (fits_less gates distinct number d below network (passage_of (frame_in frames p)) t (head_link p at) fits);
  }

  closed_before : (t : ℕ) → max free now ≤ t → t < port.background → t < end → (waiting : Waiting) → line (get_or gates number d).link ≡ Some waiting → waiting.wanted ≤ t → BackgroundOpen gates (get_or gates number d).link t → ⊥
  closed_before t since before in_time waiting at wanted open' = is.background.none waiting t at since wanted before in_time (opens_less gates distinct number d below t OpensBackground open')

  later : (t : ℕ) → now ≤ t → free ≤ t → max free now ≤ t
  later t present open' = max-le open' present

  pub idle_before : (t : ℕ) → now ≤ t → free ≤ t → t < port_time port → t < end → IsIdle network gates frames line (get_or gates number d).link t
  idle_before t present open' before in_time =
      let facts = time_facts port in
      record {
        scheduled = silent_before t (later t present open') (omega arith) in_time;
        background = closed_before t (later t present open') (omega arith) in_time;
      }

  pub free_le : (free ≤ port.scheduled) × (free ≤ port.background)
  free_le = omega arith

  pub now_le : (now ≤ port.scheduled) × (now ≤ port.background)
  now_le = omega arith

  pub can_schedule : port.scheduled < end → CanStart network gates frames line (record { link = (get_or gates number d).link; time = port.scheduled; frame = port.head }) port.head
  can_schedule in_time =
      let here = is.scheduled.here in_time in
      subst (CanStart network gates frames line (record { link = (get_or gates number d).link; time = port.scheduled; frame = port.head })) (sym here.1) (
        subst (IsHead network frames (get_or gates number d).link) here.1 is.head,
        here.2,
        fits_more gates distinct number d below network (passage_of (frame_in frames here.0)) port.scheduled (head_link here.0 here.1) here.3,
      )

  pub can_send : port.background < port.scheduled → port.background < end → CanStart network gates frames line (record { link = (get_or gates number d).link; time = port.background; frame = None }) None
  can_send order in_time =
      let here = is.background.here in_time in (
        (here.0, here.1, here.2),
        opens_more gates distinct number d below port.background OpensBackground here.3,
        silent_before port.background is.background.forward order in_time,
      )

-- ---- of all lists

module _ (network : Network) (gates : List LinkGates) (lists : HasLists network gates) (frames : List Frame) (line : ℕ → Option Waiting) (free : List ℕ) (now end : ℕ) (port_at : ℕ → Port)
    (ports : (number : ℕ) (d : LinkGates) → number < length gates → IsPort network (get_or gates number d).entries frames (line (get_or gates number d).link) (get_or gates number d).link
    (max (free_on free (get_or gates number d).link) now) end (port_at number)) where
  idle_all : (time : ℕ) → ((other : ℕ) → other < length gates → time ≤ port_time (port_at other)) → (t other : ℕ) (d : LinkGates) → now ≤ t → t < time → t < end → other < length gates
      → free_on free (get_or gates other d).link ≤ t → IsIdle network gates frames line (get_or gates other d).link t
  idle_all time least t other d present before in_time below open' =
      let first = least other below in
      idle_before network gates lists.distinct frames line other d below (free_on free (get_or gates other d).link) now end (port_at other) (ports other d below) t present open' (omega arith) in_time

  pub none_next : now ≤ end → ((other : ℕ) → other < length gates → end ≤ port_time (port_at other)) → IsNextOf network gates frames line free now end (record { link = 0; time = end; frame = None })
  none_next order late = record {
    forward = order;
    idle = idle_all end late;
    link = λ in_time. absurd (omega arith);
    wire = λ in_time. absurd (omega arith);
    can = λ in_time. absurd (omega arith);
  }

  module _ (number : ℕ) (d : LinkGates) (below : number < length gates) (least : (other : ℕ) → other < length gates → port_time (port_at number) ≤ port_time (port_at other)) where
    pub next_scheduled : (port_at number).scheduled ≤ (port_at number).background → IsNextOf network gates frames line free now end (record { link = (get_or gates number d).link; time = (port_at number).scheduled; frame = (port_at number).head })
    next_scheduled order =
        let port = port_at number in
        let is = ports number d below in
        let present = now_le network gates lists.distinct frames line number d below (free_on free (get_or gates number d).link) now end port is in
        let open' = free_le network gates lists.distinct frames line number d below (free_on free (get_or gates number d).link) now end port is in
        record {
          forward = present.0;
          idle = idle_all (port_at number).scheduled (λ other other_below. let soon = least other other_below in omega arith);
          link = λ in_time. lists.links number d below;
          wire = λ in_time. open'.0;
          can = can_schedule network gates lists.distinct frames line number d below (free_on free (get_or gates number d).link) now end port is;
        } where
          refl_le : (port_at number).scheduled ≤ (port_at number).scheduled
          refl_le = omega arith

    pub next_background : (port_at number).background < (port_at number).scheduled → IsNextOf network gates frames line free now end (record { link = (get_or gates number d).link; time = (port_at number).background; frame = None })
    next_background order =
        let port = port_at number in
        let is = ports number d below in
        let present = now_le network gates lists.distinct frames line number d below (free_on free (get_or gates number d).link) now end port is in
        let open' = free_le network gates lists.distinct frames line number d below (free_on free (get_or gates number d).link) now end port is in
        record {
          forward = present.1;
          idle = idle_all (port_at number).background (λ other other_below. let soon = least other other_below in omega arith);
          link = λ in_time. lists.links number d below;
          wire = λ in_time. open'.1;
          can = can_send network gates lists.distinct frames line number d below (free_on free (get_or gates number d).link) now end port is order;
        } where
          refl_le : (port_at number).background ≤ (port_at number).background
          refl_le = omega arith
