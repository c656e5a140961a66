-- Why cycles can't be replayed.
--     NamesLinks, KeepsLimits      what is asked of the lists and of the background
--     HasReplayFault               the first cause
use Rattle.std.specs.Prelude.{◌≡◌, ◌≢◌, ℕ, ◌*◌, ◌≤◌, ◌<◌, List, [], length, All, AllPairs, Any}
use Rattle.tsn_model.specs.Network.{Network, stream_count, hop_count, route_link}
use Rattle.tsn_model.specs.Gates.{cycle_of}
use Rattle.tsn_model.specs.Bridge.{LinkGates, BackgroundFrame, Background}
use Rattle.tsn_model.specs.Bridge.Background.{nothing, greedy, frames}
use Rattle.tsn_replay.specs.declared.replay_fault.ReplayFault.{ReplayFault}
use Rattle.tsn_replay.specs.declared.replay_fault.ReplayFault.TheVariants.{UnknownLink, Limit, Memory}

-- the number by which a fault is told
abbrev pub number_of : ReplayFault → ℕ
number_of UnknownLink = 1
number_of Limit = 2
number_of Memory = 3

-- the background frames that are handed in
abbrev pub frames_of : Background → List BackgroundFrame
frames_of nothing = []
frames_of greedy = []
frames_of (frames list) = list

-- a list is of the link
abbrev pub IsListed : List LinkGates → ℕ → Type 0
IsListed lists link = Any (λ (list : LinkGates). list.link ≡ link) lists

-- each hop of the stream is on the link of a list
abbrev pub HasListedRoute : Network → List LinkGates → ℕ → Type 0
HasListedRoute network lists i = (k : ℕ) → k < hop_count network i → IsListed lists (route_link network i k)

-- the lists are of different links of the network, and each link that a stream uses or on which a background frame waits has one
pub record NamesLinks (network : Network) (lists : List LinkGates) (background : Background) : Type 0 where
  pub exist : All (λ (list : LinkGates). list.link < length network.links) lists
  pub distinct : AllPairs (λ (a b : LinkGates). a.link ≢ b.link) lists
  pub used : (i : ℕ) → i < stream_count network → HasListedRoute network lists i
  pub waited : All (λ (frame : BackgroundFrame). IsListed lists frame.link) (frames_of background)

-- the background frame has 64 to 1522 octets, and waits from an instant before the end on
abbrev pub IsWithin : ℕ → BackgroundFrame → Type 0
IsWithin end frame = (64 ≤ frame.octets) × (frame.octets ≤ 1522) × (frame.wanted < end)

-- each list lasts the cycle, and there are at most 10,000 background frames, all within their limits
pub record KeepsLimits (network : Network) (lists : List LinkGates) (cycles : ℕ) (background : Background) : Type 0 where
  pub whole : All (λ (list : LinkGates). cycle_of list.entries ≡ network.cycle) lists
  pub few : length (frames_of background) ≤ 10000
  pub within : All (IsWithin (cycles * network.cycle)) (frames_of background)

-- the first cause for which the cycles can't be replayed
abbrev pub HasReplayFault : Network → List LinkGates → ℕ → Background → ReplayFault → Type 0
HasReplayFault network lists cycles background UnknownLink = ¬ NamesLinks network lists background
HasReplayFault network lists cycles background Limit = NamesLinks network lists background × (¬ KeepsLimits network lists cycles background)
HasReplayFault network lists cycles background Memory = NamesLinks network lists background × KeepsLimits network lists cycles background
