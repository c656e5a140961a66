-- The queue of a link, and what starts next.
--     passage_of, Waits, Precedes, IsHead      the frames that wait on a link, in order (an item for each frame and hop)
--     AreInLine, IsFirstAmong, IsFirstWaiting  how the items stand, and where the first one is looked for
--     first_stage, fresh_frame                 an item before any start
--     IsVisit, AreVisits, AreAllVisits         the hops of all streams, by link
--     Next, CanStart, IsIdle, IsNextOf         what starts next, and that nothing starts before it
use Rattle.std.specs.Prelude.{◌≡◌, ◌≢◌, ℕ, ◌+◌, ◌*◌, ◌≤◌, ◌<◌, ◌⊎◌, ◌==◌, if◌then◌else◌, List, length, slice_index, slice_index_or, All, Contains, Option, Some, None, Vec}
use Rattle.std.specs.Global.{Global}
use Rattle.tsn_model.specs.Network.{Network, stream_count, route_of, hop_count, route_link, from_at}
use Rattle.tsn_model.specs.Timing.{shifts}
use Rattle.tsn_model.specs.Bridge.{LinkGates, BackgroundOpen, Passage, FitsAt}
use Rattle.tsn_replay.specs.declared.queue.Frame.{Frame}
use Rattle.tsn_replay.specs.declared.queue.Stage.{Stage}
use Rattle.tsn_replay.specs.declared.queue.Stage.TheVariants.{Coming, Queued, Gone}
use Rattle.tsn_replay.specs.declared.visits.Visit.{Visit}
use Rattle.tsn_replay.specs.declared.feed.Waiting.{Waiting}
use Rattle.tsn_replay.specs.Frames.{first_visit, visits_of}

-- the passage that an item is of
unfoldable pub passage_of : Frame → Passage
passage_of frame = record { stream = frame.stream; shift = frame.shift; cycle = frame.cycle; hop = frame.hop }

-- the item of that number of the list
unfoldable pub frame_in : List Frame → ℕ → Frame
frame_in frames number =
    slice_index_or frames number (record { stream = 0; hop = 0; shift = 0; cycle = 0; stage = Coming; ready = 0; rank = 0 })

-- where a frame is at first: where the talker sends it waits, and elsewhere it is still to come
abbrev pub first_stage : Network → ℕ → ℕ → Stage
first_stage network stream hop =
    if from_at network (route_of network stream) hop == from_at network (route_of network stream) 0 then Queued else Coming

-- an item before any start; where the talker sends, the frame starts so long after that instant
abbrev pub fresh_frame : Stage → ℕ → ℕ → ℕ → ℕ → ℕ → Frame
fresh_frame stage stream hop cycle begin shift =
    record { stream = stream; hop = hop; shift = shift; cycle = cycle; stage = stage; ready = begin + shift; rank = stream }

-- the frame waits for its start on the link
pub record Waits (network : Network) (link : ℕ) (frame : Frame) : Type 0 where
  pub waits : frame.stage ≡ Queued
  pub on : route_link network frame.stream frame.hop ≡ link

-- by readiness, then by rank
abbrev pub Precedes : Frame → Frame → Type 0
Precedes a b = (a.ready < b.ready) ⊎ ((a.ready ≡ b.ready) × (a.rank ≤ b.rank))

-- of the first so many frames, the one that is first in the link's queue, if one waits there
abbrev pub IsFirstOf : Network → List Frame → ℕ → ℕ → Option ℕ → Type 0
IsFirstOf network frames link count None = (number : ℕ) → number < count → ¬ Waits network link (frame_in frames number)
IsFirstOf network frames link count (Some head) = (head < count) × Waits network link (frame_in frames head)
    × ((number : ℕ) → number < count → Waits network link (frame_in frames number)
    → Precedes (frame_in frames head) (frame_in frames number))

-- the first frame of the link's queue, if there is one
abbrev pub IsHead : Network → List Frame → ℕ → Option ℕ → Type 0
IsHead network frames link head = IsFirstOf network frames link (length frames) head

-- two items of one stream's hop
abbrev pub IsOneVisit : Frame → Frame → Type 0
IsOneVisit a b = (a.stream ≡ b.stream) × (a.hop ≡ b.hop)

-- The items stand by stream, those of a stream by hop, and those of a hop by cycle, then shift; so that of a frame on a later hop stands
-- as many blocks further. Of two of a hop the later one is gone only after the earlier one, comes only after it, and where both wait it is
-- ready later.
pub record AreInLine (network : Network) (cycles : ℕ) (frames : List Frame) : Type 0 where
  pub count : length frames ≡ visits_of network * cycles
  pub hop : (number : ℕ) → number < length frames → (frame_in frames number).hop < hop_count network (frame_in frames number).stream
  pub place : (number : ℕ) → number < length frames
      → (first_visit network (frame_in frames number).stream (frame_in frames number).hop * cycles ≤ number)
      × (number < first_visit network (frame_in frames number).stream ((frame_in frames number).hop + 1) * cycles)
  pub onward : (number more : ℕ) → number < length frames
      → (frame_in frames number).hop + more < hop_count network (frame_in frames number).stream
      → (number + more * (length (shifts network (frame_in frames number).stream) * cycles) < length frames)
      × (passage_of (frame_in frames (number + more * (length (shifts network (frame_in frames number).stream) * cycles)))
      ≡ record (passage_of (frame_in frames number)) { hop = (frame_in frames number).hop + more })
  pub gone : (a b : ℕ) → a < b → b < length frames → IsOneVisit (frame_in frames a) (frame_in frames b)
      → (frame_in frames b).stage ≡ Gone → (frame_in frames a).stage ≡ Gone
  pub coming : (a b : ℕ) → a < b → b < length frames → IsOneVisit (frame_in frames a) (frame_in frames b)
      → (frame_in frames a).stage ≡ Coming → (frame_in frames b).stage ≡ Coming
  pub readies : (a b : ℕ) → a < b → b < length frames → IsOneVisit (frame_in frames a) (frame_in frames b)
      → (frame_in frames a).stage ≡ Queued → (frame_in frames b).stage ≡ Queued
      → (frame_in frames a).ready < (frame_in frames b).ready

-- of the frames that are looked at, the one that is first in the link's queue, if one waits there
abbrev pub IsFirstAmong : Network → List Frame → ℕ → (Frame → Type 0) → Option ℕ → Type 0
IsFirstAmong network frames link P None =
    (number : ℕ) → number < length frames → P (frame_in frames number) → ¬ Waits network link (frame_in frames number)
IsFirstAmong network frames link P (Some first) = (first < length frames) × Waits network link (frame_in frames first)
    × ((number : ℕ) → number < length frames → P (frame_in frames number) → Waits network link (frame_in frames number)
    → Precedes (frame_in frames first) (frame_in frames number))

-- a stream's hop, with how many frames by hops stand before it, and how many frames the stream sends in a cycle
abbrev pub visit_of : Network → ℕ → ℕ → Visit
visit_of network stream hop =
    record { stream = stream; hop = hop; first = first_visit network stream hop; count = length (shifts network stream) }

-- a hop of a stream on the link
pub record IsVisit (network : Network) (link : ℕ) (visit : Visit) : Type 0 where
  pub stream : visit.stream < stream_count network
  pub hop : visit.hop < hop_count network visit.stream
  pub on : route_link network visit.stream visit.hop ≡ link
  pub first : visit.first ≡ first_visit network visit.stream visit.hop
  pub count : visit.count ≡ length (shifts network visit.stream)

-- these are the hops of all streams on the link
pub record AreVisits (network : Network) (link : ℕ) (visits : List Visit) : Type 0 where
  pub right : All (IsVisit network link) visits
  pub complete : (stream hop : ℕ) → stream < stream_count network → hop < hop_count network stream → route_link network stream hop ≡ link
      → Contains visits (visit_of network stream hop)

-- by link, those on it, for so many links
pub record AreAllVisits (network : Network) (links : ℕ) (visits : List (Vec Visit Global)) : Type 0 where
  pub count : length visits ≡ links
  pub each : (link : ℕ) (d : Vec Visit Global) → link < links → AreVisits network link (slice_index_or visits link d).items

-- of the items from a number on to another one, the first that waits, if one does
abbrev pub IsFirstWaiting : List Frame → ℕ → ℕ → Option ℕ → Type 0
IsFirstWaiting frames from to None = (number : ℕ) → from ≤ number → number < to → (frame_in frames number).stage ≢ Queued
IsFirstWaiting frames from to (Some first) = (from ≤ first) × (first < to) × ((frame_in frames first).stage ≡ Queued)
    × ((number : ℕ) → from ≤ number → number < first → (frame_in frames number).stage ≢ Queued)

-- at instant t no scheduled frame can start on the link
pub record IsSilent (network : Network) (gates : List LinkGates) (frames : List Frame) (link t : ℕ) : Type 0 where
  pub head : Option ℕ
  pub is_head : IsHead network frames link head
  pub closed : (number : ℕ) → head ≡ Some number → (frame_in frames number).ready ≤ t
      → ¬ FitsAt network gates (passage_of (frame_in frames number)) t

-- what starts next on a link, and when: a frame of the list by its number, or a background frame
pub record Next : Type 0 where
  pub link : ℕ
  pub time : ℕ
  pub frame : Option ℕ

-- what starts next can start: the head of a queue, or the background frame that waits where no scheduled one can
abbrev pub CanStart : Network → List LinkGates → List Frame → (ℕ → Option Waiting) → Next → Option ℕ → Type 0
CanStart network gates frames line next (Some number) =
    IsHead network frames next.link (Some number) × ((frame_in frames number).ready ≤ next.time)
    × FitsAt network gates (passage_of (frame_in frames number)) next.time
CanStart network gates frames line next None = ((waiting : Waiting) × (line next.link ≡ Some waiting) × (waiting.wanted ≤ next.time))
    × BackgroundOpen gates next.link next.time × IsSilent network gates frames next.link next.time

-- the wire of that link is free from then on
abbrev pub free_on : List ℕ → ℕ → ℕ
free_on free link = slice_index free link

-- nothing can start on the link at instant t
pub record IsIdle (network : Network) (gates : List LinkGates) (frames : List Frame) (line : ℕ → Option Waiting) (link t : ℕ) : Type 0 where
  pub scheduled : IsSilent network gates frames link t
  pub background : (waiting : Waiting) → line link ≡ Some waiting → waiting.wanted ≤ t → ¬ BackgroundOpen gates link t

-- nothing can start on the link from `now` until `next`, and there it can
pub record IsNextOn (network : Network) (gates : List LinkGates) (frames : List Frame) (line : ℕ → Option Waiting)
    (link free now end : ℕ) (next : Next) : Type 0 where
  pub on : next.link ≡ link
  pub forward : now ≤ next.time
  pub idle : (t : ℕ) → now ≤ t → free ≤ t → t < next.time → t < end → IsIdle network gates frames line link t
  pub wire : free ≤ next.time
  pub can : next.time < end → CanStart network gates frames line next next.frame

-- nothing can start on any list's link from `now` until `next`, and there it can
pub record IsNextOf (network : Network) (gates : List LinkGates) (frames : List Frame) (line : ℕ → Option Waiting)
    (free : List ℕ) (now end : ℕ) (next : Next) : Type 0 where
  pub forward : now ≤ next.time
  pub idle : (t number : ℕ) (d : LinkGates) → now ≤ t → t < next.time → t < end → number < length gates
      → free_on free (slice_index_or gates number d).link ≤ t
      → IsIdle network gates frames line (slice_index_or gates number d).link t
  pub link : next.time < end → next.link < length network.links
  pub wire : next.time < end → free_on free next.link ≤ next.time
  pub can : next.time < end → CanStart network gates frames line next next.frame
