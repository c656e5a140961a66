-- Bridges whose frames may be ready sooner than the timing says, since processing takes now less and now more, and clocks differ (IEEE Std 802.1AS).
--     IsDelayed, IsEarlyRunWithout, IsEarlyRun             what a run keeps in which frames may be ready early, and links may have failed
--     AreSpacedOn, ToleratesOn, Tolerates                  how early frames may be ready
--     place_before, readiness, HoldsTo, HoldsToWithout     the same where gates may be open for longer
--     ToleratesLead, slack_sum
--     StartsInTime                                         what then holds
use Rattle.std.specs.Prelude.{◌≡◌, ◌≢◌, ℕ, ◌+◌, ◌*◌, ◌≤◌, ◌<◌, zero, suc, ◌==◌, ◌⊎◌, nat_lt, if◌then◌else◌, List, [], All, AllPairs, Any, Contains}
use Rattle.std.specs.List.{position_or_len}
use Rattle.tsn_model.specs.Network.{Network, stream_count, route_of, hop_count, route_link, link_at, from_at, Continues}
use Rattle.tsn_model.specs.Timing.{hop_delay}
use Rattle.tsn_model.specs.Bridge.{LinkGates, BackgroundOpen, Passage, ScheduledStart, BackgroundStart, BridgeRun, WireUse, link_of, length_of, wire_uses, AreDisjoint, IsPassage, StartedAt, NotStartedBefore, IsReady, FitsAt, planned}
use Rattle.tsn_model.specs.Failures.{IsIntact}

-- All times of a link, of its gates, its starts and its queue, are by the clock of the node that sends on it.
--
-- Why a slack covers clocks: let the clocks of two neighbours never differ by more than d, and let each link's propagation be given as d more than it takes, and each node's proc as the longest that it takes, of which it may take less by up to j. So the delay of a hop, D, is d more than the longest that the hop takes. A frame that starts at s by its sender's clock is then at the next node ready to be sent between D - d - j and D - d later. That node's clock may be ahead or behind by d. So by this clock the frame is ready between s + D - 2 * d - j and s + D: a slack of 2 * d + j covers it.

-- why a passage that is ready can't start at instant t: the gate is closed or closes too soon, a frame that started before has the wire, or another frame that was ready no later hasn't started before
abbrev pub IsDelayed : Network → List ℕ → List LinkGates → ℕ → (Passage → ℕ) → BridgeRun → Passage → ℕ → Type 0
IsDelayed network offsets gates cycles ready run passage t =
    (¬ FitsAt network gates passage t)
    ⊎ Any (λ (wire : WireUse). (wire.link ≡ link_of network passage) × (wire.from < t) × (t < wire.until)) (wire_uses network run)
    ⊎ ((other : Passage) × (due : ℕ) × IsPassage network cycles other × (other ≢ passage) × (link_of network other ≡ link_of network passage)
    × IsReady network offsets run other due × (ready other ≤ ready passage) × NotStartedBefore run other t)

-- a run of bridges by these gates, for that many cycles, in which each passage is ready at the instant that the timing says, or sooner by at most its link's slack, and none starts on a failed link
pub record IsEarlyRunWithout (failed : List ℕ) (network : Network) (offsets : List ℕ) (gates : List LinkGates) (cycles : ℕ) (slack : ℕ → ℕ) (ready : Passage → ℕ) (run : BridgeRun) : Type 0 where
  pub wires_shared : AllPairs AreDisjoint (wire_uses network run)
  pub uses_begin : All (λ (wire : WireUse). wire.from < cycles * network.cycle) (wire_uses network run)
  pub background_length : All (λ (begun : BackgroundStart). begun.octets ≤ 1522) run.background
  pub background_open : All (λ (begun : BackgroundStart). BackgroundOpen gates begun.link begun.time) run.background
  pub passages : All (λ (begun : ScheduledStart). IsPassage network cycles begun.passage) run.scheduled
  pub silent : All (λ (begun : ScheduledStart). Contains failed (link_of network begun.passage) → ⊥) run.scheduled
  pub once : (passage : Passage) (s t : ℕ) → StartedAt run passage s → StartedAt run passage t → s ≡ t
  pub early : (passage : Passage) (due : ℕ) → IsPassage network cycles passage → IsReady network offsets run passage due → (ready passage ≤ due) × (due ≤ ready passage + slack (link_of network passage))
  pub begun_ready : All (λ (begun : ScheduledStart). (due : ℕ) × IsReady network offsets run begun.passage due × (ready begun.passage ≤ begun.time)) run.scheduled
  pub fits : All (λ (begun : ScheduledStart). FitsAt network gates begun.passage begun.time) run.scheduled
  pub waits : (passage : Passage) (due t : ℕ) → IsPassage network cycles passage → (Contains failed (link_of network passage) → ⊥) → IsReady network offsets run passage due → ready passage ≤ t → t < cycles * network.cycle
      → NotStartedBefore run passage (t + 1) → IsDelayed network offsets gates cycles ready run passage t

-- and no link has failed
abbrev pub IsEarlyRun : Network → List ℕ → List LinkGates → ℕ → (ℕ → ℕ) → (Passage → ℕ) → BridgeRun → Type 0
IsEarlyRun = IsEarlyRunWithout []

-- ---- how early frames may be ready

-- of two passages of the link the one planned later is so by more than it may be early
abbrev pub AreSpacedOn : Network → List ℕ → ℕ → (Passage → ℕ) → Type 0
AreSpacedOn network offsets link early = (cycles : ℕ) (first second : Passage) → IsPassage network cycles first → IsPassage network cycles second
    → link_of network first ≡ link → link_of network second ≡ link → planned network offsets first < planned network offsets second → planned network offsets first + early second < planned network offsets second

-- on the link the slack is less than the time between planned starts, so that no frame is ready before an earlier one has its turn; and less than the delay of each hop to it, so that none is ready before it started on the hop before
pub record ToleratesOn (network : Network) (offsets : List ℕ) (link slack : ℕ) : Type 0 where
  pub spaced : AreSpacedOn network offsets link (λ (passage : Passage). slack)
  pub after_start : (i before k : ℕ) → i < stream_count network → before < hop_count network i → k < hop_count network i → Continues network (route_of network i) before k → route_link network i k ≡ link → slack < hop_delay network i (route_link network i before)

-- the slack of each link is so
abbrev pub Tolerates : Network → List ℕ → (ℕ → ℕ) → Type 0
Tolerates network offsets slack = (link : ℕ) → ToleratesOn network offsets link (slack link)

-- ---- where gates may be open for longer

-- the place of the link that the link of place k continues; past the last one where the talker sends
unfoldable pub place_before : Network → List ℕ → ℕ → ℕ
place_before network route k = position_or_len (λ link. (link_at network link).to == from_at network route k) route

-- by how much a passage may be ready early where passages start early by at most the lead: by that on the link that it continues, if it continues one, and its own link's slack
unfoldable pub readiness : Network → (ℕ → ℕ) → (Passage → ℕ) → Passage → ℕ
readiness network slack lead passage =
    (if nat_lt (place_before network (route_of network passage.stream) passage.hop) (hop_count network passage.stream) then lead (record passage { hop = place_before network (route_of network passage.stream) passage.hop }) else 0) + slack (link_of network passage)

-- where the gates let a passage start early by more than its lead, as soon as it may be ready, it is another passage's turn on the link, which by that one's lead isn't over
abbrev pub HoldsTo : Network → List ℕ → List LinkGates → (ℕ → ℕ) → (Passage → ℕ) → Type 0
HoldsTo network offsets gates slack lead = (cycles : ℕ) (passage : Passage) (t : ℕ) → IsPassage network cycles passage
    → planned network offsets passage ≤ t + readiness network slack lead passage → t + lead passage < planned network offsets passage → FitsAt network gates passage t
    → (other : Passage) × IsPassage network cycles other × (link_of network other ≡ link_of network passage)
    × (planned network offsets other ≤ t) × (t + lead other < planned network offsets other + length_of network other)

-- the same where links have failed: to the other passage's link a whole way leads, since else it doesn't come, and its turn is free
abbrev pub HoldsToWithout : List ℕ → Network → List ℕ → List LinkGates → (ℕ → ℕ) → (Passage → ℕ) → Type 0
HoldsToWithout failed network offsets gates slack lead = (cycles : ℕ) (passage : Passage) (t : ℕ) → IsPassage network cycles passage
    → planned network offsets passage ≤ t + readiness network slack lead passage → t + lead passage < planned network offsets passage → FitsAt network gates passage t
    → (other : Passage) × IsPassage network cycles other × IsIntact failed network (route_of network other.stream) other.hop × (link_of network other ≡ link_of network passage)
    × (planned network offsets other ≤ t) × (t + lead other < planned network offsets other + length_of network other)

-- of two passages of one link the one planned later is so by more than it may be ready early; and slacks are less than the delays of the hops before
pub record ToleratesLead (network : Network) (offsets : List ℕ) (slack : ℕ → ℕ) (lead : Passage → ℕ) : Type 0 where
  pub spaced : (link : ℕ) → AreSpacedOn network offsets link (readiness network slack lead)
  pub after_start : (i before k : ℕ) → i < stream_count network → before < hop_count network i → k < hop_count network i → Continues network (route_of network i) before k → slack (route_link network i k) < hop_delay network i (route_link network i before)

-- the slacks of so many links on a passage's way, from its own back to the talker
unfoldable pub slacks_back : Network → (ℕ → ℕ) → ℕ → Passage → ℕ
slacks_back network slack zero passage = 0
slacks_back network slack (suc count) passage = readiness network slack (slacks_back network slack count) passage

-- the slacks of all links on its way: a lead to which nothing need hold
unfoldable pub slack_sum : Network → (ℕ → ℕ) → Passage → ℕ
slack_sum network slack passage = slacks_back network slack (passage.hop + 1) passage

-- each scheduled frame starts on each hop by its planned instant, and early by at most the lead
abbrev pub StartsInTime : Network → List ℕ → ℕ → (Passage → ℕ) → BridgeRun → Type 0
StartsInTime network offsets cycles lead run = (passage : Passage) → IsPassage network cycles passage
    → (s : ℕ) × StartedAt run passage s × (s ≤ planned network offsets passage) × (planned network offsets passage ≤ s + lead passage)
