-- Holding streams to their offsets, one after the other.
use Rattle.std.proofs.Common.{◌≡◌, ◌≢◌, ℕ, ◌+◌, ◌*◌, ◌≤◌, ◌<◌, inl, inr, min, List, [], map, length, get_or, set, take, Option, Some, None, refl, sym, ap, ap₂, ◌∙◌, subst, arith, length-take, mul-pos}
use Rattle.std.specs.List.{range_with_len}
use Rattle.std.specs.Option.{option_map_or}
use Rattle.std.proofs.lemmas.Bool.{cases_lt, cases_eq}
use Rattle.std.proofs.lemmas.List.{get_or-take, get_or_past, ext_get_or, length-set, get_or-set_same, get_or-set_other}
use Rattle.std.proofs.lemmas.List.Elements.{All-set, All-weaker}
use Rattle.std.proofs.lemmas.List.Sums.{sum_by-set}
use Rattle.std.proofs.lemmas.List.FromFn.{length-map-range_with_len, get_or-map-range_with_len}
use Rattle.tsn_model.specs.declared.Link.{Link}
use Rattle.tsn_model.specs.Network.{Network, Stream, IsWellFormed, IsLink, IsRoute, IsStream, no_stream, stream_count, stream_at, octets_of, route_of, hop_count, route_link, link_at, transfer, hop_delay, frame_count, Continues}
use Rattle.tsn_model.specs.Timing.{hop_arrival, arrival}
use Rattle.tsn_model.specs.Held.{hold, had, held_stream, held}
use Rattle.tsn_model.proofs.Lists.{le-greatest-range}
use Rattle.tsn_model.proofs.Routes.{rate-pos}
use Rattle.tsn_model.proofs.Limits.{hops-pos, route_exists}
use Rattle.tsn_model.proofs.Held.{same_count, stream_held, same_arrival}

-- ---- offsets seen so far

had_taken : (offsets : List (Option ℕ)) (i k : ℕ) → k < i → had (take i offsets) k ≡ had offsets k
had_taken offsets i k below = get_or-take i offsets k None below

had_not_yet : (offsets : List (Option ℕ)) (i k : ℕ) → i ≤ k → had (take i offsets) k ≡ None
had_not_yet offsets i k above =
    let short = length-take i offsets in
    get_or_past (take i offsets) k None (omega arith)

module _ (network : Network) where
  nth_held : (offsets : List (Option ℕ)) (k : ℕ) → k < stream_count network
      → get_or (map (held_stream network offsets) (range_with_len 0 (stream_count network))) k no_stream ≡ held_stream network offsets k
  nth_held offsets k below = get_or-map-range_with_len (held_stream network offsets) 0 (stream_count network) k k no_stream below (omega arith)

  held_count : (offsets : List (Option ℕ)) → length (map (held_stream network offsets) (range_with_len 0 (stream_count network))) ≡ stream_count network
  held_count offsets = length-map-range_with_len (held_stream network offsets) 0 (stream_count network)

  -- the streams, one by one
  held_by : (offsets : List (Option ℕ)) (streams : List Stream) → length streams ≡ stream_count network
      → ((k : ℕ) → k < stream_count network → get_or streams k no_stream ≡ held_stream network offsets k)
      → record network { streams = streams } ≡ held network offsets
  unfolding held
  held_by offsets streams count each =
      ap (λ (xs : List Stream). record network { streams = xs })
      (ext_get_or no_stream streams (map (held_stream network offsets) (range_with_len 0 (stream_count network))) (count ∙ sym (held_count offsets))
      (λ k below. let inside : k < stream_count network = omega (arith, below, count) in each k inside ∙ sym (nth_held offsets k inside)))

  held_over : (offsets : List (Option ℕ)) (streams : List Stream) → record (held network offsets) { streams = streams } ≡ record network { streams = streams }
  unfolding held
  held_over offsets streams = refl

  same_held : (offsets others : List (Option ℕ)) → ((k : ℕ) → k < stream_count network → had offsets k ≡ had others k)
      → held network offsets ≡ held network others
  unfolding held
  same_held offsets others same = held_by others (map (held_stream network offsets) (range_with_len 0 (stream_count network))) (held_count offsets)
      (λ k below. nth_held offsets k below ∙ ap (λ found. option_map_or (hold network k) found (stream_at network k)) (same k below))

  pub held_none : network ≡ held network []
  unfolding stream_at
  held_none = held_by [] network.streams refl (λ k below. refl)

  module _ (offsets : List (Option ℕ)) (i : ℕ) (below : i < stream_count network) where
    had_more : (k : ℕ) → k ≢ i → had (take i offsets) k ≡ had (take (i + 1) offsets) k
    had_more k other = elim (cases_lt k i) [
      | inl before ↦ had_taken offsets i k before ∙ sym (had_taken offsets (i + 1) k (omega (arith, before)))
      | inr after ↦ had_not_yet offsets i k after ∙ sym (had_not_yet offsets (i + 1) k (grind (arith, after, other)))
    ]

    abbrev before : Network
    before = held network (take i offsets)

    -- stream i isn't held before its turn
    not_yet : stream_at before i ≡ stream_at network i
    not_yet =
        stream_held network (take i offsets) i below
        ∙ ap (λ found. option_map_or (hold network i) found (stream_at network i)) (had_not_yet offsets i i (omega arith))

    -- what is held of another stream stays
    unheld_more : (k : ℕ) → k ≢ i → k < stream_count network → stream_at before k ≡ held_stream network (take (i + 1) offsets) k
    unheld_more k other counted =
        stream_held network (take i offsets) k counted ∙ ap (λ found. option_map_or (hold network k) found (stream_at network k)) (had_more k other)

    pub held_more : (offset : ℕ) → had offsets i ≡ Some offset
        → (let n = held network (take i offsets) in record n { streams = set n.streams i (hold n i offset) }) ≡ held network (take (i + 1) offsets)
    unfolding stream_at
    held_more offset is =
        let placed = hold before i offset in
        let streams = set before.streams i placed in
        let same : placed ≡ hold network i offset =
        ap₂ (λ (stream : Stream) time. record stream { release = offset; latest = min (offset + time) 1000000000 }) not_yet
        (same_arrival network (take i offsets) i) in
        let inside : i < length before.streams = rw (same_count network (take i offsets)) below in
        held_over (take i offsets) streams
        ∙ held_by (take (i + 1) offsets) streams (length-set before.streams i placed ∙ same_count network (take i offsets))
        (λ k counted. elim (cases_eq k i) [
          | inl here ↦
              subst (λ n. get_or streams n no_stream ≡ held_stream network (take (i + 1) offsets) n) (sym here)
              (get_or-set_same before.streams i placed no_stream inside ∙ same
              ∙ sym (ap (λ found. option_map_or (hold network i) found (stream_at network i)) (had_taken offsets (i + 1) i (omega arith) ∙ is)))
          | inr there ↦ get_or-set_other before.streams i k placed no_stream there ∙ unheld_more k there counted
        ])

    pub held_no_more : had offsets i ≡ None → held network (take i offsets) ≡ held network (take (i + 1) offsets)
    held_no_more is = same_held (take i offsets) (take (i + 1) offsets) (λ k counted. elim (cases_eq k i) [
      | inl here ↦
          subst (λ n. had (take i offsets) n ≡ had (take (i + 1) offsets) n) (sym here)
          (had_not_yet offsets i i (omega arith) ∙ sym (had_taken offsets (i + 1) i (omega arith) ∙ is))
      | inr there ↦ had_more k there
    ])

-- ---- limits

module _ (network : Network) (formed : IsWellFormed network) (i offset : ℕ) (below : i < stream_count network) (small : offset ≤ 1000000000) where
  arrival-pos : 1 ≤ arrival network i
  unfolding arrival hop_arrival transfer
  arrival-pos =
      let hops = hops-pos network formed i below in
      let rate = rate-pos network formed (route_link network i 0) (route_exists network formed i below 0 0 (omega (arith, hops))) in
      let product : 0 < (octets_of network i + 8) * (link_at network (route_link network i 0)).octet_time =
      mul-pos (omega arith) rate in
      let among = le-greatest-range (hop_arrival network i) (hop_count network i) 0 0 (omega arith) (omega (arith, hops)) in
      omega (arith, product, among)

  abbrev over : List Stream → Network
  over streams = record network { streams = streams }

  link_over : (streams : List Stream) (link : Link) → IsLink network link → IsLink (over streams) link
  link_over streams link is = record { from = is.from; to = is.to; joins_two = is.joins_two; rate = is.rate; propagation = is.propagation }

  route_over : (streams : List Stream) (route : List ℕ) → IsRoute network route → IsRoute (over streams) route
  unfolding link_at
  route_over streams route is = record {
    some_link = is.some_link;
    few_links = is.few_links;
    links_exist = is.links_exist;
    no_link_twice = is.no_link_twice;
    links_follow = is.links_follow;
    none_returns = is.none_returns;
    entered_once = is.entered_once;
  }

  stream_over : (streams : List Stream) (stream : Stream) → IsStream network stream → IsStream (over streams) stream
  stream_over streams stream is = record {
    not_short = is.not_short;
    not_long = is.not_long;
    some_turn = is.some_turn;
    whole_periods = is.whole_periods;
    some_frame = is.some_frame;
    short_burst = is.short_burst;
    route = route_over streams stream.route is.route;
    release = is.release;
    some_latest = is.some_latest;
    latest = is.latest;
  }

  held_formed : IsStream network (hold network i offset)
  unfolding stream_at
  held_formed =
      let is = formed.streams i no_stream below in
      let some = arrival-pos in
      record {
        not_short = is.not_short;
        not_long = is.not_long;
        some_turn = is.some_turn;
        whole_periods = is.whole_periods;
        some_frame = is.some_frame;
        short_burst = is.short_burst;
        route = is.route;
        release = small;
        some_latest = omega (arith, some);
        latest = omega arith;
      }

  -- the streams take as long as before
  alike_over : (k : ℕ) → ((stream_at (over (set network.streams i (hold network i offset))) k).octets ≡ (stream_at network k).octets)
      × ((stream_at (over (set network.streams i (hold network i offset))) k).route ≡ (stream_at network k).route)
  unfolding stream_at
  alike_over k = elim (cases_eq k i) [
    | inl here ↦
        let placed = get_or-set_same network.streams i (hold network i offset) no_stream below in (
          ap (λ n. (get_or (set network.streams i (hold network i offset)) n no_stream).octets) here
              ∙ (ap (λ (s : Stream). s.octets) placed ∙ ap (λ n. (get_or network.streams n no_stream).octets) (sym here)),
          ap (λ n. (get_or (set network.streams i (hold network i offset)) n no_stream).route) here
              ∙ (ap (λ (s : Stream). s.route) placed ∙ ap (λ n. (get_or network.streams n no_stream).route) (sym here)),
        )
    | inr there ↦
        let kept = get_or-set_other network.streams i k (hold network i offset) no_stream there in
        (ap (λ (s : Stream). s.octets) kept, ap (λ (s : Stream). s.route) kept)
  ]

  bears_over : (k before hop : ℕ) → k < stream_count network → before < hop_count (over (set network.streams i (hold network i offset))) k
      → hop < hop_count (over (set network.streams i (hold network i offset))) k
      → Continues (over (set network.streams i (hold network i offset))) (route_of (over (set network.streams i (hold network i offset))) k) before hop
      → network.slack < hop_delay (over (set network.streams i (hold network i offset))) k
      (route_link (over (set network.streams i (hold network i offset))) k before)
  unfolding hop_delay transfer octets_of route_of link_at
  bears_over k before hop counted first second continues =
      let alike = alike_over k in
      let past = formed.after_start k before hop counted (subst (λ route. before < length route) alike.1 first) (subst (λ route. hop < length route) alike.1 second)
      (subst (λ route. Continues network route before hop) alike.1 continues) in
      rw (alike.0, alike.1) past

  pub well_held : IsWellFormed (record network { streams = set network.streams i (hold network i offset) })
  unfolding stream_at frame_count
  well_held =
      let streams = set network.streams i (hold network i offset) in
      let count = length-set network.streams i (hold network i offset) in
      let frames = sum_by-set (λ (stream : Stream). stream.turns * stream.burst) network.streams i (hold network i offset) no_stream below in
      let few = formed.few_frames in
      record {
        some_cycle = formed.some_cycle;
        short_cycle = formed.short_cycle;
        short_slack = formed.short_slack;
        few_nodes = formed.few_nodes;
        few_links = formed.few_links;
        some_stream = rw count formed.some_stream;
        few_streams = rw count formed.few_streams;
        few_frames = omega (arith, frames, few);
        procs = formed.procs;
        links = All-weaker (IsLink network) (IsLink (over streams)) (link_over streams) network.links formed.links;
        streams = All-weaker (IsStream network) (IsStream (over streams)) (stream_over streams) streams
            (All-set (IsStream network) network.streams i (hold network i offset) held_formed formed.streams);
        after_start = λ k before hop counted. bears_over k before hop (omega (arith, counted, count));
      }
