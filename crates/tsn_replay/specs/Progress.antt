-- What a replay keeps from one start to the next.
--     Turn, Plan      in which order frames start, and how early they may
--     IsRunSoFar      what has started is a bridge run up to the present instant
--     IsFrame, IsTracked      the items by frame and hop
--     AreMoved, AreBegun      what a start makes of them, and what they are before any
--     IsListSoFar, IsFedSoFar its background is what was handed in
--     Setting, IsState        the whole state of a replay
--     IsRenewed, IsSending, AreStarts      what its steps do, and what is left at its end
use Rattle.std.specs.Prelude.{◌≡◌, ℕ, ◌+◌, ◌*◌, ◌≤◌, ◌<◌, ◌⊎◌, ◌≢◌, ◌-◌, List, [], length, slice_index_or, slice_set, max, sum_by, Bool, All, AllPairs, Any, Option, Some, None}
use Rattle.tsn_model.specs.Network.{Network, IsWellFormed, stream_count, route_of, hop_count, route_link, link_at, Continues}
use Rattle.tsn_model.specs.Bridge.{LinkGates, BackgroundOpen, Passage, ScheduledStart, BackgroundStart, BridgeRun, WireUse, IsBridgeRun, IsFed, link_of, wire_uses, AreDisjoint, IsPassage, StartedAt, NotStartedBefore, IsReady, FitsAt, IsTaken, IsHeld, Background, BackgroundFrame, frame_at, IsBefore, FrameStartedBefore}
use Rattle.tsn_replay.specs.declared.queue.Frame.{Frame}
use Rattle.tsn_replay.specs.declared.queue.Stage.TheVariants.{Coming, Queued, Gone}
use Rattle.tsn_replay.specs.Queue.{AreInLine, AreAllVisits, IsOneVisit, passage_of, frame_in, first_stage, free_on}
use Rattle.tsn_model.specs.Timing.{hop_delay}
use Rattle.tsn_model.specs.Bridge.Background.{nothing, greedy, frames}
use Rattle.tsn_model.specs.Schedule.{offset_of}
use Rattle.tsn_model.specs.Early.{IsEarlyRun}
use Rattle.tsn_replay.specs.declared.feed.Waiting.{Waiting}
use Rattle.tsn_replay.specs.declared.engine.State.{State}
use Rattle.tsn_replay.specs.declared.engine.Replay.{Replay}
use Rattle.tsn_replay.specs.declared.engine.Sending.{Sending}
use Rattle.tsn_replay.specs.Frames.{AreSpaced}
use Rattle.tsn_replay.specs.Openings.{HasLists, HasBackground, AreListNumbers}
use Rattle.tsn_replay.specs.Records.{IsRecord}
use Rattle.tsn_replay.specs.Feeding.{background_of, IsLine, IsFeedOf, waiting_on, greatest_on}
use Rattle.tsn_replay.specs.declared.port.Port.{Port}
use Rattle.tsn_replay.specs.Ports.{IsPort, port_in}
use Rattle.tsn_replay.specs.Bounds.{latest_end, latest_free, latest_instant}

-- from when on a frame may start, and before which others that may from the same instant on
pub record Turn : Type 0 where
  pub ready : ℕ
  pub rank : ℕ

-- by readiness, then by rank
abbrev pub Goes : Turn → Turn → Type 0
Goes a b = (a.ready < b.ready) ⊎ ((a.ready ≡ b.ready) × (a.rank ≤ b.rank))

-- the offsets, by how much frames may be ready early at most, and the turn of each passage that is ready so far
pub record Plan : Type 0 where
  pub offsets : List ℕ
  pub slack : ℕ
  pub turn : Passage → Turn

abbrev pub with_turns : Plan → (Passage → Turn) → Plan
with_turns plan turn = record plan { turn = turn }

-- the turn of a passage that is to be ready at an instant; where no frame may be early ties go by stream
pub record IsTurn (slack due stream : ℕ) (turn : Turn) : Type 0 where
  pub upto : turn.ready ≤ due
  pub since : due ≤ turn.ready + slack
  pub exact : slack ≡ 0 → turn.rank ≡ stream

-- why a passage that is ready can't start at instant t: the gate is closed or closes too soon, a frame that started before has the wire,
-- or another frame whose turn is no later hasn't started before
abbrev pub IsHeldUp : Network → List ℕ → List LinkGates → ℕ → (Passage → Turn) → BridgeRun → Passage → ℕ → Type 0
IsHeldUp network offsets gates cycles turn run passage t =
    (¬ FitsAt network gates passage t)
    ⊎ Any (λ (wire : WireUse). (wire.link ≡ link_of network passage) × (wire.from < t) × (t < wire.until)) (wire_uses network run)
    ⊎ ((other : Passage) × (due : ℕ) × IsPassage network cycles other × (other ≢ passage)
    × (link_of network other ≡ link_of network passage)
    × IsReady network offsets run other due × Goes (turn other) (turn passage) × NotStartedBefore run other t)

-- what has started is a bridge run up to instant `now`; each wire is taken from now on until it is free, and then by nobody
pub record IsRunSoFar (network : Network) (plan : Plan) (gates : List LinkGates) (cycles : ℕ) (free : ℕ → ℕ)
    (now : ℕ) (run : BridgeRun) : Type 0 where
  pub wires_shared : AllPairs AreDisjoint (wire_uses network run)
  pub uses_begin : All (λ (wire : WireUse). (wire.from ≤ now) × (wire.from < cycles * network.cycle)) (wire_uses network run)
  pub uses_end : All (λ (wire : WireUse). wire.until ≤ free wire.link) (wire_uses network run)
  pub busy : (link t : ℕ) → now ≤ t → t < free link → IsTaken network run link t
  pub background_length : All (λ (begun : BackgroundStart). begun.octets ≤ 1522) run.background
  pub background_open : All (λ (begun : BackgroundStart). BackgroundOpen gates begun.link begun.time) run.background
  pub passages : All (λ (begun : ScheduledStart). IsPassage network cycles begun.passage) run.scheduled
  pub once : (passage : Passage) (s t : ℕ) → StartedAt run passage s → StartedAt run passage t → s ≡ t
  pub turns : (passage : Passage) (due : ℕ) → IsPassage network cycles passage → IsReady network plan.offsets run passage due
      → IsTurn plan.slack due passage.stream (plan.turn passage)
  pub begun_ready : All (λ (begun : ScheduledStart). (due : ℕ) × IsReady network plan.offsets run begun.passage due
      × ((plan.turn begun.passage).ready ≤ begun.time)) run.scheduled
  pub fits : All (λ (begun : ScheduledStart). FitsAt network gates begun.passage begun.time) run.scheduled
  pub waits : (passage : Passage) (due t : ℕ) → IsPassage network cycles passage → IsReady network plan.offsets run passage due
      → (plan.turn passage).ready ≤ t → t < cycles * network.cycle
      → (t < now) ⊎ (t < free (link_of network passage)) → NotStartedBefore run passage (t + 1)
      → IsHeldUp network plan.offsets gates cycles plan.turn run passage t

-- greedy background up to instant `now`: no instant passed at which a background frame could have started
pub record IsGreedySoFar (network : Network) (gates : List LinkGates) (cycles : ℕ) (free : ℕ → ℕ) (now : ℕ) (run : BridgeRun) : Type 0 where
  pub greatest : All (λ (begun : BackgroundStart). begun.octets ≡ 1522) run.background
  pub held : (t : ℕ) → t < cycles * network.cycle
      → All (λ (item : LinkGates). (t < now) ⊎ (t < free item.link) → IsHeld network gates run item.link t) gates

-- the passage can start at instant `now`, and is first in its link's queue
pub record IsDue (network : Network) (plan : Plan) (gates : List LinkGates) (cycles : ℕ) (free : ℕ → ℕ) (now : ℕ)
    (run : BridgeRun) (passage : Passage)
    (due : ℕ) : Type 0 where
  pub passage_is : IsPassage network cycles passage
  pub ready_at : IsReady network plan.offsets run passage due
  pub since : (plan.turn passage).ready ≤ now
  pub unstarted : (s : ℕ) → StartedAt run passage s → ⊥
  pub wire : free (link_of network passage) ≤ now
  pub in_time : now < cycles * network.cycle
  pub fits : FitsAt network gates passage now
  pub first : (other : Passage) (other_due : ℕ) → IsPassage network cycles other → link_of network other ≡ link_of network passage
      → IsReady network plan.offsets run other other_due
      → NotStartedBefore run other (now + 1) → (other ≡ passage → ⊥) → Goes (plan.turn passage) (plan.turn other)

-- at instant `now` no scheduled frame can start on the link
pub record IsQuiet (network : Network) (plan : Plan) (gates : List LinkGates) (cycles : ℕ) (now : ℕ) (run : BridgeRun)
    (link : ℕ) : Type 0 where
  pub blocked : (passage : Passage) (due : ℕ) → IsPassage network cycles passage → link_of network passage ≡ link
      → IsReady network plan.offsets run passage due → (plan.turn passage).ready ≤ now
      → NotStartedBefore run passage (now + 1) → IsHeldUp network plan.offsets gates cycles plan.turn run passage now

-- a background frame can start on the link at instant `now`, and no scheduled one
pub record IsBackgroundDue (network : Network) (plan : Plan) (gates : List LinkGates) (cycles : ℕ) (free : ℕ → ℕ)
    (now : ℕ) (run : BridgeRun)
    (link : ℕ) : Type 0 where
  pub wire : free link ≤ now
  pub in_time : now < cycles * network.cycle
  pub opened : BackgroundOpen gates link now
  pub quiet : IsQuiet network plan gates cycles now run link

-- from when on a frame may start next, and before which others
abbrev pub turn_of : Frame → Turn
turn_of frame = record { ready = frame.ready; rank = frame.rank }

abbrev pub with_turn : Frame → Turn → Frame
with_turn frame turn = record frame { ready = turn.ready; rank = turn.rank }

-- an item is gone where its passage has started; it is queued where the passage is ready and hasn't, in its turn; and it is still to come
-- where the passage isn't ready
pub record IsFrame (network : Network) (plan : Plan) (cycles : ℕ) (run : BridgeRun) (frame : Frame) : Type 0 where
  pub passage : IsPassage network cycles (passage_of frame)
  pub gone : frame.stage ≡ Gone → (s : ℕ) × StartedAt run (passage_of frame) s
  pub unstarted : (frame.stage ≡ Gone → ⊥) → (s : ℕ) → StartedAt run (passage_of frame) s → ⊥
  pub ready : frame.stage ≡ Queued → (due : ℕ) × IsReady network plan.offsets run (passage_of frame) due
  pub turn : frame.stage ≡ Queued → plan.turn (passage_of frame) ≡ turn_of frame
  pub coming : frame.stage ≡ Coming → (due : ℕ) → IsReady network plan.offsets run (passage_of frame) due → ⊥

-- there is one item for each passage
pub record IsTracked (network : Network) (plan : Plan) (cycles : ℕ) (run : BridgeRun) (frames : List Frame) : Type 0 where
  pub each : (number : ℕ) → number < length frames → IsFrame network plan cycles run (frame_in frames number)
  pub complete : (passage : Passage) → IsPassage network cycles passage → (number : ℕ) × (number < length frames)
      × (passage_of (frame_in frames number) ≡ passage)
  pub distinct : (a b : ℕ) → a < length frames → b < length frames → passage_of (frame_in frames a) ≡ passage_of (frame_in frames b) → a ≡ b

-- one passage is the same frame's as another one, on a hop that continues the other one's
pub record IsOnward (network : Network) (passage next : Passage) : Type 0 where
  pub same : next ≡ record passage { hop = next.hop }
  pub inside : next.hop < hop_count network passage.stream
  pub continues : Continues network (route_of network passage.stream) passage.hop next.hop

-- an item once its frame has started, and once the frame has come to it that started on another one at an instant
abbrev pub left : Frame → Frame
left frame = record frame { stage = Gone }

abbrev pub arrived : Network → Frame → ℕ → Frame → Frame
arrived network started time frame =
    record frame { stage = Queued; ready = time + hop_delay network started.stream (route_link network started.stream started.hop) }

-- the item of that number, which is to be ready at an instant, has its turn: no sooner than another instant, and behind the item before it
-- where this one is of the same stream and hop and queued
pub record HasTurn (network : Network) (slack : ℕ) (frames : List Frame) (number : ℕ) (frame : Frame) (soonest : ℕ)
    (turned : Frame) : Type 0 where
  pub is : turned ≡ with_turn frame (turn_of turned)
  pub turn : IsTurn slack frame.ready frame.stream (turn_of turned)
  pub least : soonest ≤ turned.ready
  pub behind : (before : ℕ) → number ≡ before + 1 → IsOneVisit (frame_in frames before) frame
      → (frame_in frames before).stage ≡ Queued → (frame_in frames before).ready < turned.ready

-- the items once that of a number has started at an instant: it is gone, the frame has come to those that are onward of it, and each other
-- one is what it was
pub record AreMoved (network : Network) (slack : ℕ) (frames : List Frame) (number time : ℕ) (moved : List Frame) : Type 0 where
  pub count : length moved ≡ length frames
  pub here : frame_in moved number ≡ left (frame_in frames number)
  pub onward : (other : ℕ) → other < length frames
      → IsOnward network (passage_of (frame_in frames number)) (passage_of (frame_in frames other))
      → HasTurn network slack frames other (arrived network (frame_in frames number) time (frame_in frames other))
      (time + 1) (frame_in moved other)
  pub others : (other : ℕ) → (number ≡ other → ⊥)
      → (IsOnward network (passage_of (frame_in frames number)) (passage_of (frame_in frames other)) → ⊥)
      → frame_in moved other ≡ frame_in frames other

-- before any start each passage that the talker sends has its turn when it is planned
abbrev pub first_turn : Network → List ℕ → Passage → Turn
first_turn network offsets passage =
    record { ready = passage.cycle * network.cycle + offset_of offsets passage.stream + passage.shift; rank = passage.stream }

-- no item is gone, those are queued that the talker sends, and those from that number on are ready when planned
pub record AreFirst (network : Network) (offsets : List ℕ) (number : ℕ) (frames : List Frame) : Type 0 where
  pub stages : (k : ℕ) → k < length frames
      → (frame_in frames k).stage ≡ first_stage network (frame_in frames k).stream (frame_in frames k).hop
  pub planned : (k : ℕ) → number ≤ k → k < length frames
      → (frame_in frames k).ready
      ≡ (frame_in frames k).cycle * network.cycle + offset_of offsets (frame_in frames k).stream + (frame_in frames k).shift

-- the items before any start, and the turns of their passages
pub record AreBegun (network : Network) (offsets : List ℕ) (slack cycles : ℕ) (run : BridgeRun) (frames : List Frame) : Type 0 where
  pub turn : Passage → Turn
  pub tracked : IsTracked network (record { offsets = offsets; slack = slack; turn = turn }) cycles run frames
  pub turns : (passage : Passage) (due : ℕ) → IsPassage network cycles passage → IsReady network offsets run passage due
      → IsTurn slack due passage.stream (turn passage)

-- a list's background up to instant `now`: each of its frames once, in line, from its wanted start on, and none waited that could start
pub record IsListSoFar (network : Network) (gates : List LinkGates) (cycles : ℕ) (list : List BackgroundFrame)
    (free : ℕ → ℕ) (now : ℕ) (run : BridgeRun) : Type 0 where
  pub listed : All (λ (begun : BackgroundStart). (begun.number < length list) × (begun.link ≡ (frame_at list begun.number).link)
      × (begun.octets ≡ (frame_at list begun.number).octets)) run.background
  pub once : AllPairs (λ (a b : BackgroundStart). a.number ≢ b.number) run.background
  pub wanted : All (λ (begun : BackgroundStart). (frame_at list begun.number).wanted ≤ begun.time) run.background
  pub in_order : All (λ (begun : BackgroundStart). (earlier : ℕ) → IsBefore list earlier begun.number
      → FrameStartedBefore run earlier begun.time) run.background
  pub waits : (number t : ℕ) → number < length list → (frame_at list number).wanted ≤ t → t < cycles * network.cycle
      → (t < now) ⊎ (t < free (frame_at list number).link) → ¬ FrameStartedBefore run number (t + 1)
      → IsHeld network gates run (frame_at list number).link t
      ⊎ ((earlier : ℕ) × IsBefore list earlier number × ¬ FrameStartedBefore run earlier (t + 1))

-- the background so far is what was handed in, and on each link this frame waits next
abbrev pub IsFedSoFar : Network → List LinkGates → ℕ → (ℕ → ℕ) → ℕ → Background → (ℕ → Option Waiting) → BridgeRun → Type 0
IsFedSoFar network gates cycles free now nothing line run =
    (run.background ≡ []) × ((link : ℕ) → link < length network.links → line link ≡ None)
IsFedSoFar network gates cycles free now greedy line run =
    IsGreedySoFar network gates cycles free now run × ((link : ℕ) → link < length network.links → line link ≡ Some (greatest_on link))
IsFedSoFar network gates cycles free now (frames list) line run =
    IsListSoFar network gates cycles list free now run × ((link : ℕ) → link < length network.links → IsLine list run link (line link))

-- what is replayed
pub record Setting : Type 0 where
  pub network : Network
  pub offsets : List ℕ
  pub gates : List LinkGates
  pub cycles : ℕ
  pub background : Background
  pub keeps : Bool
  pub slack : ℕ

abbrev pub setting_of : Replay → Setting
setting_of replay = record {
  network = replay.network.now;
  offsets = replay.offsets.now;
  gates = replay.gates.now;
  cycles = replay.cycles;
  background = background_of replay.background.now;
  keeps = replay.keeps;
  slack = replay.slack;
}

-- it can be replayed
pub record IsSetting (setting : Setting) : Type 0 where
  pub formed : IsWellFormed setting.network
  pub count : length setting.offsets ≡ stream_count setting.network
  pub small : All (λ offset. offset ≤ setting.network.cycle) setting.offsets
  pub spaced : AreSpaced setting.network
  pub few : setting.cycles ≤ 16
  pub short : setting.slack ≤ 1000000
  pub lists : HasLists setting.network setting.gates
  pub background : HasBackground setting.network setting.gates setting.background

-- the state is under way, but for its ports
pub record IsUnderWay (setting : Setting) (state : State) : Type 0 where
  pub end : state.end ≡ setting.cycles * setting.network.cycle
  pub time : state.time ≤ state.end
  pub small : state.end ≤ latest_end
  pub made : BridgeRun
  pub records : IsRecord setting.keeps made state.starts
  pub turn : Passage → Turn
  pub run : IsRunSoFar setting.network
      (record { offsets = setting.offsets; slack = setting.slack; turn = turn }) setting.gates setting.cycles
      (free_on state.free.items) state.time made
  pub fed : IsFedSoFar setting.network setting.gates setting.cycles (free_on state.free.items) state.time setting.background
      (waiting_on state.feed) made
  pub tracked : IsTracked setting.network
      (record { offsets = setting.offsets; slack = setting.slack; turn = turn }) setting.cycles made state.frames.items
  pub line : AreInLine setting.network setting.cycles state.frames.items
  pub feed : IsFeedOf setting.background (length setting.network.links) state.feed
  pub wires : length state.free.items ≡ length setting.network.links
  pub numbers : AreListNumbers setting.gates (length setting.network.links) state.numbers.items
  pub visits : AreAllVisits setting.network (length setting.network.links) state.visits.items
  pub frees : All (λ time. time ≤ latest_free) state.free.items
  pub readies : All (λ (frame : Frame). frame.ready ≤ latest_instant) state.frames.items

-- this is the port of the list of that number
abbrev pub IsPortAt : Setting → State → ℕ → Port → Type 0
IsPortAt setting state number port =
    (d : LinkGates) → IsPort setting.network (slice_index_or setting.gates number d).entries state.frames.items
    (waiting_on state.feed (slice_index_or setting.gates number d).link)
    (slice_index_or setting.gates number d).link
    (max (free_on state.free.items (slice_index_or setting.gates number d).link) state.time) state.end port

-- the ports are those of the lists
pub record HasPorts (setting : Setting) (state : State) : Type 0 where
  pub count : length state.ports ≡ length setting.gates
  pub each : (number : ℕ) → number < length setting.gates → IsPortAt setting state number (port_in state.ports number)

-- the state is under way
pub record IsState (setting : Setting) (state : State) : Type 0 where
  pub under_way : IsUnderWay setting state
  pub ports : HasPorts setting state

-- the states differ in the port of that number, which is made anew
pub record IsRenewed (setting : Setting) (number : ℕ) (old new : State) : Type 0 where
  pub port : Port
  pub is_port : IsPortAt setting old number port
  pub ports : new ≡ record old { ports = slice_set old.ports number port }

-- the background frame that waits on the link of the list of that number, and when its wire is free once it has started at the port's
-- instant
pub record IsSending (setting : Setting) (state : State) (number : ℕ) (port : Port) (sending : Sending) : Type 0 where
  pub on : (d : LinkGates) → (slice_index_or setting.gates number d).link ≡ sending.link
  pub exists : sending.link < length setting.network.links
  pub waits : waiting_on state.feed sending.link ≡ Some sending.waiting
  pub until : sending.until ≡ port.background + (sending.waiting.octets + 20) * (link_at setting.network sending.link).octet_time
  pub some : 1 ≤ (link_at setting.network sending.link).octet_time
  pub few : (link_at setting.network sending.link).octet_time ≤ 800
  pub early : sending.until ≤ latest_free

-- the starts that are kept are those of a whole run that the background feeds, in which frames are ready early by at most the slack
pub record AreStarts (setting : Setting) (starts : BridgeRun) : Type 0 where
  pub made : BridgeRun
  pub records : IsRecord setting.keeps made starts
  pub ready : Passage → ℕ
  pub early : IsEarlyRun setting.network setting.offsets setting.gates setting.cycles (λ link. setting.slack) ready made
  pub exact : setting.slack ≡ 0 → IsBridgeRun setting.network setting.offsets setting.gates setting.cycles made
  pub fed : IsFed setting.network setting.gates setting.cycles setting.background made

-- how long the wires are still free, all together
abbrev pub time_left : State → ℕ
time_left state = sum_by (λ time. state.end - time) state.free.items
