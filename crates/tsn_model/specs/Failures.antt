-- Bridges some of whose links have failed: no frame starts on these, and what continues them waits for nothing.
--     IsBridgeRunWithout     a run beside failed links
--     IsIntact               a link to which a way leads that has none of them
use Rattle.std.specs.Prelude.{◌≡◌, ℕ, ◌+◌, ◌*◌, ◌≤◌, ◌<◌, List, length, slice_index, All, AllPairs, Contains}
use Rattle.tsn_model.specs.Network.{Network, Continues}
use Rattle.tsn_model.specs.Bridge.{LinkGates, BackgroundOpen, Passage, ScheduledStart, BackgroundStart, BridgeRun, WireUse, link_of, wire_uses, AreDisjoint, IsPassage, StartedAt, NotStartedBefore, IsReady, FitsAt, IsBlocked}

-- what a run of bridges keeps (`IsBridgeRun`), but that no scheduled frame starts on a failed link
pub record IsBridgeRunWithout (failed : List ℕ) (network : Network) (offsets : List ℕ) (gates : List LinkGates) (cycles : ℕ) (run : BridgeRun) : Type 0 where
  pub wires_shared : AllPairs AreDisjoint (wire_uses network run)
  pub uses_begin : All (λ (wire : WireUse). wire.from < cycles * network.cycle) (wire_uses network run)
  pub background_length : All (λ (begun : BackgroundStart). begun.octets ≤ 1522) run.background
  pub background_open : All (λ (begun : BackgroundStart). BackgroundOpen gates begun.link begun.time) run.background
  pub passages : All (λ (begun : ScheduledStart). IsPassage network cycles begun.passage) run.scheduled
  pub silent : All (λ (begun : ScheduledStart). Contains failed (link_of network begun.passage) → ⊥) run.scheduled
  pub once : (passage : Passage) (s t : ℕ) → StartedAt run passage s → StartedAt run passage t → s ≡ t
  pub ready : All (λ (begun : ScheduledStart). (t : ℕ) × IsReady network offsets run begun.passage t × (t ≤ begun.time)) run.scheduled
  pub fits : All (λ (begun : ScheduledStart). FitsAt network gates begun.passage begun.time) run.scheduled
  pub waits : (passage : Passage) (ready t : ℕ) → IsPassage network cycles passage → (Contains failed (link_of network passage) → ⊥) → IsReady network offsets run passage ready → ready ≤ t → t < cycles * network.cycle
      → NotStartedBefore run passage (t + 1) → IsBlocked network offsets gates cycles run passage ready t

-- some links of the route, none failed, have the link of place k, and with each link the one that it continues: so the way from the talker to its end is whole
pub record IsIntact (failed : List ℕ) (network : Network) (route : List ℕ) (k : ℕ) : Type 0 where
  pub way : List ℕ
  pub has : Contains way k
  pub closed : (j next : ℕ) → j < length route → Contains way next → Continues network route j next → Contains way j
  pub whole : All (λ j. Contains failed (slice_index route j) → ⊥) way
