-- Routes without branches, from the talker to one listener, and when frames are where on them: sums along the route.
--     IsLine                                                    such a route
--     line_start, line_start_on, line_arrival, line_end, line_span      its times
use Rattle.std.specs.Prelude.{◌≡◌, ◌≢◌, ℕ, ◌+◌, ◌-◌, ◌≤◌, ◌<◌, List, ◌∷◌, map, length, take, sum_by, slice_index, ◌==◌, All, AllPairs}
use Rattle.std.specs.List.{AllAdjacentBelow, before_first, range_with_len}
use Rattle.tsn_model.specs.Network.{Network, link_at, route_of, hop_count, route_link}
use Rattle.tsn_model.specs.Timing.{separation, transfer, hop_delay, spread, greatest}

-- the nodes along a route, from the talker to the listener
unfoldable pub nodes_along : Network → List ℕ → List ℕ
nodes_along network route = (link_at network (slice_index route 0)).from ∷ map (λ link. (link_at network link).to) route

-- 1 to 64 links of the network; each begins where the one before it ends, and no node is met twice
pub record IsLine (network : Network) (route : List ℕ) : Type 0 where
  pub some_link : 1 ≤ length route
  pub few_links : length route ≤ 64
  pub links_exist : All (λ link. link < length network.links) route
  pub links_connect : AllAdjacentBelow (λ a b. (link_at network a).to ≡ (link_at network b).from) route (length route)
  pub no_node_twice : AllPairs ◌≢◌ (nodes_along network route)

-- the start of a frame of stream i on hop k, counted from where it starts on the first: the delays of the hops before it
unfoldable pub line_start : Network → ℕ → ℕ → ℕ
line_start network i k = sum_by (hop_delay network i) (take k (route_of network i))

-- and on a link
unfoldable pub line_start_on : Network → ℕ → ℕ → ℕ
line_start_on network i link = sum_by (hop_delay network i) (before_first (λ hop. hop == link) (route_of network i))

-- when the last octet of the last frame of a period is at the listener
unfoldable pub line_arrival : Network → ℕ → ℕ
line_arrival network i = line_start network i (hop_count network i - 1) + spread network i + transfer network i (route_link network i (hop_count network i - 1))

-- when the last frame of a period no longer keeps hop k's link
unfoldable pub line_end : Network → ℕ → ℕ → ℕ
line_end network i k = line_start network i k + spread network i + separation network i (route_link network i k)

-- when the last frame of a period keeps no link any more, or its arrival where that is later
unfoldable pub line_span : Network → ℕ → ℕ
line_span network i = greatest (line_arrival network i ∷ map (line_end network i) (range_with_len 0 (hop_count network i)))
