-- How large the numbers of a network within its limits are.
use Rattle.std.proofs.Common.{ℕ, ◌+◌, ◌-◌, ◌*◌, ◌≤◌, map, ◌<◌, length, All, arith, mul-le-mul, mul-pos}
use Rattle.std.specs.List.{range_with_len}
use Rattle.std.proofs.lemmas.List.Elements.{All-map}
use Rattle.tsn_model.specs.Network.{Network, IsWellFormed, IsLink, IsStream, stream_count, no_stream, stream_at, octets_of, turns_of, period_of, burst_of, route_of, release_of, latest_of, hop_count, route_link, link_at, proc_at}
use Rattle.tsn_model.proofs.Lists.{greatest-le, All-map-range}
use Rattle.tsn_model.proofs.Starts.{ready-le}
use Rattle.tsn_model.proofs.Shifts.{part_below, place-le, turns-mul-le, period-le-cycle}
use Rattle.tsn_model.proofs.Routes.{rate-pos}
use Rattle.tsn_model.specs.Timing.{occupancy, separation, pace, spread, transfer, hop_delay, start_on, start, hop_arrival, arrival}

module _ (network : Network) (formed : IsWellFormed network) where
  stream_formed : (i : ℕ) → i < stream_count network → IsStream network (stream_at network i)
  unfolding stream_at
  stream_formed i below = formed.streams i no_stream below

  pub octets-le : (i : ℕ) → i < stream_count network → octets_of network i ≤ 1522
  unfolding octets_of
  octets-le i below = (stream_formed i below).not_long

  pub release-le : (i : ℕ) → i < stream_count network → release_of network i ≤ 1000000000
  unfolding release_of
  release-le i below = (stream_formed i below).release

  pub latest-pos : (i : ℕ) → i < stream_count network → 1 ≤ latest_of network i
  unfolding latest_of
  latest-pos i below = (stream_formed i below).some_latest

  pub latest-le : (i : ℕ) → i < stream_count network → latest_of network i ≤ 1000000000
  unfolding latest_of
  latest-le i below = (stream_formed i below).latest

  pub hops-le : (i : ℕ) → i < stream_count network → hop_count network i ≤ 64
  unfolding route_of
  hops-le i below = (stream_formed i below).route.few_links

  pub hops-pos : (i : ℕ) → i < stream_count network → 1 ≤ hop_count network i
  unfolding route_of
  hops-pos i below = (stream_formed i below).route.some_link

  pub route_exists : (i : ℕ) → i < stream_count network → All (λ link. link < length network.links) (route_of network i)
  unfolding route_of
  route_exists i below = (stream_formed i below).route.links_exist

  link_formed : (link : ℕ) → link < length network.links → IsLink network (link_at network link)
  unfolding link_at
  link_formed link below = formed.links link (record { from = 0; to = 0; octet_time = 0; propagation = 0 }) below

  pub rate-le : (link : ℕ) → link < length network.links → (link_at network link).octet_time ≤ 800
  rate-le link below = let is = (link_formed link below).rate in grind (arith, is)

  pub prop-le : (link : ℕ) → link < length network.links → (link_at network link).propagation ≤ 1000000
  prop-le link below = (link_formed link below).propagation

  pub to-lt : (link : ℕ) → link < length network.links → (link_at network link).to < length network.procs
  to-lt link below = (link_formed link below).to

  pub proc-le : (node : ℕ) → node < length network.procs → proc_at network node ≤ 1000000
  proc-le node below = formed.procs node 0 below

  pub occupancy-le : (i link : ℕ) → i < stream_count network → link < length network.links → occupancy network i link ≤ 1233600
  unfolding occupancy
  occupancy-le i link stream_below link_below =
      let octets = octets-le i stream_below in
      let rate = rate-le link link_below in
      let sum : octets_of network i + 20 ≤ 1542 = omega arith in
      let product : (octets_of network i + 20) * (link_at network link).octet_time ≤ 1542 * 800 = mul-le-mul sum rate in
      omega arith

  pub occupancy-ge : (i link : ℕ) → link < length network.links → 1 ≤ occupancy network i link
  unfolding occupancy
  occupancy-ge i link below =
      let rate = rate-pos network formed link below in
      let product : 0 < (octets_of network i + 20) * (link_at network link).octet_time = mul-pos (omega arith) rate in
      omega arith

  pub separation-le : (i link : ℕ) → i < stream_count network → link < length network.links → separation network i link ≤ 1233600
  unfolding separation
  separation-le i link stream_below link_below =
      let occupied = occupancy-le i link stream_below link_below in
      let slack = formed.short_slack in
      omega arith

  pub transfer-le : (i link : ℕ) → i < stream_count network → link < length network.links → transfer network i link ≤ 2224000
  unfolding transfer
  transfer-le i link stream_below link_below =
      let octets = octets-le i stream_below in
      let rate = rate-le link link_below in
      let prop = prop-le link link_below in
      let sum : octets_of network i + 8 ≤ 1530 = omega arith in
      let product : (octets_of network i + 8) * (link_at network link).octet_time ≤ 1530 * 800 = mul-le-mul sum rate in
      omega arith

  pub hop_delay-le : (i link : ℕ) → i < stream_count network → link < length network.links → hop_delay network i link ≤ 3224000
  unfolding hop_delay
  hop_delay-le i link stream_below link_below =
      let whole = transfer-le i link stream_below link_below in
      let proc = proc-le (link_at network link).to (to-lt link link_below) in
      omega arith

  pub start_on-le : (i link : ℕ) → i < stream_count network → start_on network i link ≤ 206336000
  unfolding start_on
  start_on-le i link below =
      let bound = ready-le network i 3224000 (λ k inside. hop_delay-le i (route_link network i k) below (route_exists i below k 0 inside)) (hop_count network i)
      (link_at network link).from (omega arith) in
      let hops = hops-le i below in
      omega arith

  pub start-le : (i k : ℕ) → i < stream_count network → start network i k ≤ 206336000
  unfolding start
  start-le i k below = start_on-le i (route_link network i k) below

  -- ---- the frames of a cycle

  pub burst-le : (i : ℕ) → i < stream_count network → burst_of network i ≤ 16
  unfolding burst_of
  burst-le i below = (stream_formed i below).short_burst

  pub pace-le : (i : ℕ) → i < stream_count network → pace network i ≤ 1233600
  unfolding pace
  pace-le i below =
      greatest-le (map (separation network i) (route_of network i)) 1233600
      (All-map (λ x. x ≤ 1233600) (separation network i) (route_of network i) (λ k d inside. separation-le i _ below (route_exists i below k d inside)))

  pub spread-le : (i : ℕ) → i < stream_count network → spread network i ≤ 18504000
  unfolding spread
  spread-le i below =
      let burst = burst-le i below in
      let pace_le = pace-le i below in
      let fewer : burst_of network i - 1 ≤ 15 = omega arith in
      let product : (burst_of network i - 1) * pace network i ≤ 15 * 1233600 = mul-le-mul fewer pace_le in
      omega arith

  pub period-le : (i : ℕ) → period_of network i ≤ 1000000000
  period-le i =
      let within = period-le-cycle network i in
      omega arith

  pub turn-le : (i turn : ℕ) → turn < turns_of network i → turn * period_of network i ≤ 1000000000
  turn-le i turn below =
      let whole = turns-mul-le network i in
      let part = part_below turn (turns_of network i) (period_of network i) below in
      omega arith

  pub shift-le : (i turn place : ℕ) → i < stream_count network → turn < turns_of network i → place < burst_of network i
      → turn * period_of network i + place * pace network i ≤ 1018504000
  shift-le i turn place counted in_cycle in_burst =
      let begin = turn-le i turn in_cycle in
      let within = place-le network i place in_burst in
      let whole = spread-le i counted in
      omega arith

  -- ---- the ends

  pub hop_arrival-le : (i k : ℕ) → i < stream_count network → k < hop_count network i → hop_arrival network i k ≤ 227064000
  unfolding hop_arrival
  hop_arrival-le i k below inside =
      let begins = start-le i k below in
      let lasts = spread-le i below in
      let whole = transfer-le i (route_link network i k) below (route_exists i below k 0 inside) in
      omega arith

  pub arrival-le : (i : ℕ) → i < stream_count network → arrival network i ≤ 227064000
  unfolding arrival
  arrival-le i below =
      greatest-le (map (hop_arrival network i) (range_with_len 0 (hop_count network i))) 227064000
      (All-map-range (λ x. x ≤ 227064000) (hop_arrival network i) (hop_count network i) 0 (λ k low high. hop_arrival-le i k below (omega arith)))
