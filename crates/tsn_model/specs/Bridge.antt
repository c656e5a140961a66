-- Bridges that forward frames by their gate control lists (IEEE Std 802.1Q-2018, clause 8.6.8.4), as relations on whole runs.
--     LinkGates, ScheduledOpen, BackgroundOpen        the gates of the links
--     BridgeRun, WireUse, wire_uses, IsTaken          what started when, and who has a wire
--     IsReady, FitsAt, IsBlocked, IsBridgeRun         what a run of scheduled frames keeps
--     Background, IsFed                               where its background frames come from
--     StartsOnTime                                    no scheduled frame waits
use Rattle.std.specs.Prelude.{◌≡◌, ◌≢◌, ℕ, ◌+◌, ◌*◌, ◌%◌, ◌≤◌, ◌<◌, ◌⊎◌, List, [], ◌++◌, map, length, slice_index_or, All, AllPairs, Any, Contains, IsBitSet, bit_and}
use Rattle.tsn_model.specs.Network.{Network, stream_count, route_of, hop_count, route_link, link_at, IsSent, Continues}
use Rattle.tsn_model.specs.Timing.{occupancy, hop_delay, Sends, start, UsesLink}
use Rattle.tsn_model.specs.Schedule.{offset_of}
use Rattle.tsn_model.specs.declared.GateEntry.{GateEntry}
use Rattle.tsn_model.specs.Gates.{IsOctetAt, IsWanted}

-- the gate control list of a link
pub record LinkGates : Type 0 where
  pub link : ℕ
  pub entries : List GateEntry

-- the link has a list, whose octet at instant t has the property
abbrev pub GatesAt : List LinkGates → ℕ → ℕ → (ℕ → Type 0) → Type 0
GatesAt gates link t P = Any (λ (item : LinkGates). (item.link ≡ link) × ((octet : ℕ) × IsOctetAt item.entries t octet × P octet)) gates

-- at instant t the scheduled class is open on the link, or some background class is
abbrev pub ScheduledOpen : List LinkGates → ℕ → ℕ → Type 0
ScheduledOpen gates link t = GatesAt gates link t (λ octet. IsBitSet octet 7)

abbrev pub BackgroundOpen : List LinkGates → ℕ → ℕ → Type 0
BackgroundOpen gates link t = GatesAt gates link t (λ octet. bit_and octet 0x7F ≢ 0)

-- ---- runs

-- the frame of that shift that a stream sends in a cycle, on a hop of its route
pub record Passage : Type 0 where
  pub stream : ℕ
  pub shift : ℕ
  pub cycle : ℕ
  pub hop : ℕ

pub record ScheduledStart : Type 0 where
  pub passage : Passage
  pub time : ℕ

-- the start of a background frame, with its number in the list of frames handed in
pub record BackgroundStart : Type 0 where
  pub link : ℕ
  pub time : ℕ
  pub octets : ℕ
  pub number : ℕ

pub record BridgeRun : Type 0 where
  pub scheduled : List ScheduledStart
  pub background : List BackgroundStart

-- a frame has a link's wire from its start until its gap has passed
pub record WireUse : Type 0 where
  pub link : ℕ
  pub from : ℕ
  pub until : ℕ

-- the link of a passage
unfoldable pub link_of : Network → Passage → ℕ
link_of network passage = route_link network passage.stream passage.hop

-- how long a passage occupies its link
unfoldable pub length_of : Network → Passage → ℕ
length_of network passage = occupancy network passage.stream (link_of network passage)

unfoldable pub scheduled_use : Network → ScheduledStart → WireUse
scheduled_use network begun = record { link = link_of network begun.passage; from = begun.time; until = begun.time + length_of network begun.passage }

unfoldable pub background_use : Network → BackgroundStart → WireUse
background_use network begun = record { link = begun.link; from = begun.time; until = begun.time + (begun.octets + 20) * (link_at network begun.link).octet_time }

-- all uses of wires in a run
unfoldable pub wire_uses : Network → BridgeRun → List WireUse
wire_uses network run = map (scheduled_use network) run.scheduled ++ map (background_use network) run.background

-- two uses of one wire have no common instant
abbrev pub AreDisjoint : WireUse → WireUse → Type 0
AreDisjoint a b = a.link ≡ b.link → (t : ℕ) → a.from ≤ t → t < a.until → b.from ≤ t → t < b.until → ⊥

-- the passage is one of the network's, in a run of that many cycles
pub record IsPassage (network : Network) (cycles : ℕ) (passage : Passage) : Type 0 where
  pub stream : passage.stream < stream_count network
  pub sent : Sends network passage.stream passage.shift
  pub cycle : passage.cycle < cycles
  pub hop : passage.hop < hop_count network passage.stream

-- the passage started at instant t
abbrev pub StartedAt : BridgeRun → Passage → ℕ → Type 0
StartedAt run passage t = Contains run.scheduled (record { passage = passage; time = t })

-- the passage didn't start before instant t
abbrev pub NotStartedBefore : BridgeRun → Passage → ℕ → Type 0
NotStartedBefore run passage t = (s : ℕ) → StartedAt run passage s → t ≤ s

-- the passage may start from instant t on: at its offset and shift where the talker sends, and on each link that continues one as the timing says from its actual start there; so a frame that comes in goes into the queue of each link that continues the one that it came by
abbrev pub IsReady : Network → List ℕ → BridgeRun → Passage → ℕ → Type 0
IsReady network offsets run passage t =
    (IsSent network (route_of network passage.stream) passage.hop × (t ≡ passage.cycle * network.cycle + offset_of offsets passage.stream + passage.shift))
    ⊎ ((before : ℕ) × (s : ℕ) × Continues network (route_of network passage.stream) before passage.hop × StartedAt run (record passage { hop = before }) s
    × (t ≡ s + hop_delay network passage.stream (route_link network passage.stream before)))

-- the scheduled class is open from instant t until the passage's occupancy would end
abbrev pub FitsAt : Network → List LinkGates → Passage → ℕ → Type 0
FitsAt network gates passage t = (u : ℕ) → t ≤ u → u < t + length_of network passage → ScheduledOpen gates (link_of network passage) u

-- one passage is before another in their link's queue: by readiness, then by stream
pub record IsQueuedBefore (network : Network) (offsets : List ℕ) (run : BridgeRun) (first : Passage) (first_ready : ℕ) (second : Passage) (second_ready : ℕ) : Type 0 where
  pub same_link : link_of network first ≡ link_of network second
  pub ready : IsReady network offsets run first first_ready
  pub order : (first_ready < second_ready) ⊎ ((first_ready ≡ second_ready) × (first.stream < second.stream))

-- why a passage that is ready can't start at instant t: the gate is closed or closes too soon, a frame that started before has the wire, or an earlier frame of the queue hasn't started before
abbrev pub IsBlocked : Network → List ℕ → List LinkGates → ℕ → BridgeRun → Passage → ℕ → ℕ → Type 0
IsBlocked network offsets gates cycles run passage ready t =
    (¬ FitsAt network gates passage t)
    ⊎ Any (λ (wire : WireUse). (wire.link ≡ link_of network passage) × (wire.from < t) × (t < wire.until)) (wire_uses network run)
    ⊎ ((earlier : Passage) × (earlier_ready : ℕ) × IsPassage network cycles earlier
    × IsQueuedBefore network offsets run earlier earlier_ready passage ready × NotStartedBefore run earlier t)

-- a run of bridges by these gates, for that many cycles
pub record IsBridgeRun (network : Network) (offsets : List ℕ) (gates : List LinkGates) (cycles : ℕ) (run : BridgeRun) : Type 0 where
  pub wires_shared : AllPairs AreDisjoint (wire_uses network run)
  pub uses_begin : All (λ (wire : WireUse). wire.from < cycles * network.cycle) (wire_uses network run)
  pub background_length : All (λ (begun : BackgroundStart). begun.octets ≤ 1522) run.background
  pub background_open : All (λ (begun : BackgroundStart). BackgroundOpen gates begun.link begun.time) run.background
  pub passages : All (λ (begun : ScheduledStart). IsPassage network cycles begun.passage) run.scheduled
  pub once : (passage : Passage) (s t : ℕ) → StartedAt run passage s → StartedAt run passage t → s ≡ t
  pub ready : All (λ (begun : ScheduledStart). (t : ℕ) × IsReady network offsets run begun.passage t × (t ≤ begun.time)) run.scheduled
  pub fits : All (λ (begun : ScheduledStart). FitsAt network gates begun.passage begun.time) run.scheduled
  pub waits : (passage : Passage) (ready t : ℕ) → IsPassage network cycles passage → IsReady network offsets run passage ready → ready ≤ t → t < cycles * network.cycle
      → NotStartedBefore run passage (t + 1) → IsBlocked network offsets gates cycles run passage ready t

-- on each link that a stream uses the listed gates are those that the schedule asks for, and each such link is listed
pub record HasWantedGates (network : Network) (offsets : List ℕ) (gates : List LinkGates) : Type 0 where
  pub wanted : All (λ (item : LinkGates). (i t octet : ℕ) → UsesLink network i item.link → IsOctetAt item.entries t octet → IsWanted network offsets item.link (t % network.cycle) octet) gates
  pub listed : (i link t : ℕ) → UsesLink network i link → GatesAt gates link t (λ octet. IsWanted network offsets link (t % network.cycle) octet)

-- when the schedule plans a passage to start
unfoldable pub planned : Network → List ℕ → Passage → ℕ
planned network offsets passage = passage.cycle * network.cycle + offset_of offsets passage.stream + passage.shift + start network passage.stream passage.hop

-- each scheduled frame starts on each hop at its planned instant, which is as soon as it is ready
abbrev pub StartsOnTime : Network → List ℕ → ℕ → BridgeRun → Type 0
StartsOnTime network offsets cycles run = (passage : Passage) → IsPassage network cycles passage → StartedAt run passage (planned network offsets passage)

-- ---- background frames

-- a frame of that many octets waits on the link from its wanted start on
pub record BackgroundFrame : Type 0 where
  pub link : ℕ
  pub wanted : ℕ
  pub octets : ℕ

-- no background; a frame of 1522 octets always waiting on each link with a list; the frames of a list
pub data Background : Type 0 where
  nothing : Background
  greedy : Background
  frames : List BackgroundFrame → Background

-- the frame of that number of the list
unfoldable pub frame_at : List BackgroundFrame → ℕ → BackgroundFrame
frame_at list number = slice_index_or list number (record { link = 0; wanted = 0; octets = 0 })

-- one frame of the list is before another on their link: by wanted start, then by number
pub record IsBefore (list : List BackgroundFrame) (first second : ℕ) : Type 0 where
  pub listed : first < length list
  pub same_link : (frame_at list first).link ≡ (frame_at list second).link
  pub order : ((frame_at list first).wanted < (frame_at list second).wanted) ⊎ (((frame_at list first).wanted ≡ (frame_at list second).wanted) × (first < second))

-- the frame of that number of the list started before instant t
abbrev pub FrameStartedBefore : BridgeRun → ℕ → ℕ → Type 0
FrameStartedBefore run number t = Any (λ (begun : BackgroundStart). (begun.number ≡ number) × (begun.time < t)) run.background

-- a frame that started by instant t has the wire
abbrev pub IsTaken : Network → BridgeRun → ℕ → ℕ → Type 0
IsTaken network run link t = Any (λ (wire : WireUse). (wire.link ≡ link) × (wire.from ≤ t) × (t < wire.until)) (wire_uses network run)

-- at instant t no background frame can start on the link
abbrev pub IsHeld : Network → List LinkGates → BridgeRun → ℕ → ℕ → Type 0
IsHeld network gates run link t = (¬ BackgroundOpen gates link t) ⊎ IsTaken network run link t

-- the background frames that start are those of the list, each once, in order, from their wanted start on, and none waits that could start
pub record IsFedByList (network : Network) (gates : List LinkGates) (cycles : ℕ) (list : List BackgroundFrame) (run : BridgeRun) : Type 0 where
  pub listed : All (λ (begun : BackgroundStart). (begun.number < length list) × (begun.link ≡ (frame_at list begun.number).link) × (begun.octets ≡ (frame_at list begun.number).octets)) run.background
  pub once : AllPairs (λ (a b : BackgroundStart). a.number ≢ b.number) run.background
  pub wanted : All (λ (begun : BackgroundStart). (frame_at list begun.number).wanted ≤ begun.time) run.background
  pub in_order : All (λ (begun : BackgroundStart). (earlier : ℕ) → IsBefore list earlier begun.number → FrameStartedBefore run earlier begun.time) run.background
  pub waits : (number t : ℕ) → number < length list → (frame_at list number).wanted ≤ t → t < cycles * network.cycle → ¬ FrameStartedBefore run number (t + 1)
      → IsHeld network gates run (frame_at list number).link t ⊎ ((earlier : ℕ) × IsBefore list earlier number × ¬ FrameStartedBefore run earlier (t + 1))

-- where the run's background frames come from
abbrev pub IsFed : Network → List LinkGates → ℕ → Background → BridgeRun → Type 0
IsFed network gates cycles nothing run = run.background ≡ []
IsFed network gates cycles greedy run =
    All (λ (begun : BackgroundStart). begun.octets ≡ 1522) run.background
    × ((t : ℕ) → t < cycles * network.cycle → All (λ (item : LinkGates). IsHeld network gates run item.link t) gates)
IsFed network gates cycles (frames list) run = IsFedByList network gates cycles list run
