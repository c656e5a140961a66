-- Streams that are held to an offset have it, and nothing else of the network changes.
use Rattle.std.proofs.Common.{◌≡◌, ℕ, zero, suc, ◌+◌, ◌*◌, ◌/◌, ◌≤◌, ◌<◌, ◌⊎◌, ◌↔◌, inl, inr, List, length, Option, Contains, IsSome, Some, None, refl, sym, ap, ap₂, ◌∙◌, subst, max, arith, get_or, ◌==◌, if◌then◌else◌}
use Rattle.std.specs.List.{range_with_len}
use Rattle.std.specs.Option.{option_map_or}
use Rattle.std.proofs.lemmas.Bool.{cases_lt}
use Rattle.std.proofs.lemmas.Option.{none-some}
use Rattle.std.proofs.lemmas.List.{length-map, get_or-map, get_or_past}
use Rattle.std.proofs.lemmas.List.FromFn.{length-range_with_len, get_or-range_with_len}
use Rattle.tsn_model.specs.Network.{Network, IsWellFormed, Stream, no_stream, stream_count, stream_at, octets_of, turns_of, period_of, burst_of, route_of, hop_count, route_link, from_at, to_at, release_of, latest_of, link_at, proc_at}
use Rattle.tsn_model.specs.Timing.{occupancy, separation, transfer, hop_delay, pace, spread, shifts, ready_after, start_on, start, hop_arrival, arrival, hop_end, hop_on, UsesLink}
use Rattle.tsn_model.specs.Schedule.{offset_of, FrameKeeps, Keeps, IsValid}
use Rattle.tsn_model.specs.Held.{hold, had, held_stream, held, AreFree, HasOffsets}
use Rattle.tsn_model.proofs.Limits.{period-le}

-- what a stream has besides its window
record Alike (a b : Stream) : Type 0 where
  octets : a.octets ≡ b.octets
  turns : a.turns ≡ b.turns
  burst : a.burst ≡ b.burst
  route : a.route ≡ b.route

module _ (network : Network) (offsets : List (Option ℕ)) where
  pub same_count : stream_count (held network offsets) ≡ stream_count network
  unfolding held
  same_count = length-map (range_with_len 0 (stream_count network)) (held_stream network offsets) ∙ length-range_with_len 0 (stream_count network)

  pub stream_held : (i : ℕ) → i < stream_count network → stream_at (held network offsets) i ≡ held_stream network offsets i
  unfolding held stream_at
  stream_held i below =
      get_or-map (held_stream network offsets) (range_with_len 0 (stream_count network)) i 0 no_stream
      (rw (length-range_with_len 0 (stream_count network)) below)
      ∙ ap (held_stream network offsets) (get_or-range_with_len 0 (stream_count network) i 0 below ∙ none_before)
    where
      none_before : 0 + i ≡ i
      none_before = omega arith

  past : (i : ℕ) → stream_count network ≤ i → stream_at (held network offsets) i ≡ stream_at network i
  unfolding stream_at
  past i above =
      let count = same_count in
      get_or_past (held network offsets).streams i no_stream (omega arith) ∙ sym (get_or_past network.streams i no_stream above)

  alike_held : (i : ℕ) (found : Option ℕ) → Alike (option_map_or (hold network i) found (stream_at network i)) (stream_at network i)
  alike_held i None = record { octets = refl; turns = refl; burst = refl; route = refl }
  alike_held i (Some offset) = record { octets = refl; turns = refl; burst = refl; route = refl }

  alike : (i : ℕ) → Alike (stream_at (held network offsets) i) (stream_at network i)
  alike i = from (cases_lt i (stream_count network))
    where
      from : (i < stream_count network) ⊎ (stream_count network ≤ i) → Alike (stream_at (held network offsets) i) (stream_at network i)
      from (inl below) = subst (λ s. Alike s (stream_at network i)) (sym (stream_held i below)) (alike_held i (had offsets i))
      from (inr above) = subst (λ s. Alike s (stream_at network i)) (sym (past i above)) (record { octets = refl; turns = refl; burst = refl; route = refl })

  same_octets : (i : ℕ) → octets_of (held network offsets) i ≡ octets_of network i
  unfolding octets_of
  same_octets i = (alike i).octets

  same_route : (i : ℕ) → route_of (held network offsets) i ≡ route_of network i
  unfolding route_of
  same_route i = (alike i).route

  same_burst : (i : ℕ) → burst_of (held network offsets) i ≡ burst_of network i
  unfolding burst_of
  same_burst i = (alike i).burst

  pub same_turns : (i : ℕ) → turns_of (held network offsets) i ≡ turns_of network i
  unfolding turns_of
  same_turns i = (alike i).turns

  same_period : (i : ℕ) → period_of (held network offsets) i ≡ period_of network i
  unfolding period_of held
  same_period i = ap (λ n. network.cycle / n) (same_turns i)

  same_occupancy : (i : ℕ) → occupancy (held network offsets) i ≡ occupancy network i
  unfolding occupancy link_at held
  same_occupancy i = ap (λ octets link. (octets + 20) * (link_at network link).octet_time) (same_octets i)

  same_separation : (i : ℕ) → separation (held network offsets) i ≡ separation network i
  unfolding separation held
  same_separation i = ap (λ occupied link. max (occupied link) (network.slack + 1)) (same_occupancy i)

  same_spread : (i : ℕ) → spread (held network offsets) i ≡ spread network i
  unfolding spread pace
  same_spread i = rw (same_burst i, same_separation i, same_route i) refl

  same_shifts : (i : ℕ) → shifts (held network offsets) i ≡ shifts network i
  unfolding shifts pace
  same_shifts i = rw (same_burst i, same_turns i, same_period i, same_separation i, same_route i) refl

  same_transfer : (i : ℕ) → transfer (held network offsets) i ≡ transfer network i
  unfolding transfer link_at held
  same_transfer i = ap (λ octets link. (octets + 8) * (link_at network link).octet_time + (link_at network link).propagation) (same_octets i)

  same_delay : (i : ℕ) → hop_delay (held network offsets) i ≡ hop_delay network i
  unfolding hop_delay transfer link_at held
  same_delay i =
      ap (λ octets link. (octets + 8) * (link_at network link).octet_time + (link_at network link).propagation + proc_at network
      (link_at network link).to) (same_octets i)

  same_hops : (i : ℕ) → hop_count (held network offsets) i ≡ hop_count network i
  same_hops i = ap length (same_route i)

  same_link : (i k : ℕ) → route_link (held network offsets) i k ≡ route_link network i k
  same_link i k = ap (λ route. get_or route k 0) (same_route i)

  same_from : (i k : ℕ) → from_at (held network offsets) (route_of (held network offsets) i) k ≡ from_at network (route_of network i) k
  unfolding link_at held
  same_from i k = ap (λ link. (link_at network link).from) (same_link i k)

  same_to : (i k : ℕ) → to_at (held network offsets) (route_of (held network offsets) i) k ≡ to_at network (route_of network i) k
  unfolding link_at held
  same_to i k = ap (λ link. (link_at network link).to) (same_link i k)

  same_delay_on : (i k : ℕ) → hop_delay (held network offsets) i (route_link (held network offsets) i k) ≡ hop_delay network i (route_link network i k)
  same_delay_on i k = ap (hop_delay (held network offsets) i) (same_link i k) ∙ ap (λ delay. delay (route_link network i k)) (same_delay i)

  same_ready : (i count node : ℕ) → ready_after (held network offsets) i count node ≡ ready_after network i count node
  unfolding ready_after
  same_ready i zero node = refl
  same_ready i (suc count) node =
      let carried = ap₂ (λ a b. a + b)
      (same_ready i count (from_at (held network offsets) (route_of (held network offsets) i) count) ∙ ap (ready_after network i count) (same_from i count)) (same_delay_on i count) in
      let stayed = same_ready i count node in
      ap (λ to. if to == node then ready_after (held network offsets) i count (from_at (held network offsets) (route_of (held network offsets) i) count) + hop_delay (held network offsets) i (route_link (held network offsets) i count) else ready_after (held network offsets) i count node) (same_to i count)
      ∙ ap₂ (λ a b. if to_at network (route_of network i) count == node then a else b) carried stayed

  same_start_on : (i link : ℕ) → start_on (held network offsets) i link ≡ start_on network i link
  unfolding start_on link_at held
  same_start_on i link =
      same_ready i (hop_count (held network offsets) i) (link_at network link).from
      ∙ ap (λ count. ready_after network i count (link_at network link).from) (same_hops i)

  same_start : (i k : ℕ) → start (held network offsets) i k ≡ start network i k
  unfolding start
  same_start i k = same_start_on i (route_link (held network offsets) i k) ∙ ap (start_on network i) (same_link i k)

  same_hop_arrival : (i k : ℕ) → hop_arrival (held network offsets) i k ≡ hop_arrival network i k
  unfolding hop_arrival
  same_hop_arrival i k = rw (same_start i k, same_spread i, same_transfer i, same_route i) refl

  same_hop_arrivals : (i : ℕ) → hop_arrival (held network offsets) i ≡ hop_arrival network i
  same_hop_arrivals i = λ p k. same_hop_arrival i k p

  pub same_arrival : (i : ℕ) → arrival (held network offsets) i ≡ arrival network i
  unfolding arrival
  same_arrival i = rw (same_hop_arrivals i, same_route i) refl

  same_hop_end : (i k : ℕ) → hop_end (held network offsets) i k ≡ hop_end network i k
  unfolding hop_end
  same_hop_end i k = rw (same_start i k, same_spread i, same_separation i, same_route i) refl

  same_hop : (i link : ℕ) → hop_on (held network offsets) i link ≡ hop_on network i link
  unfolding hop_on
  same_hop i link = rw (same_route i) refl

  -- ---- what is valid

  frame_as : (list : List ℕ) (i shift link t : ℕ) → FrameKeeps (held network offsets) list i shift link t → FrameKeeps network list i shift link t
  frame_as list i shift link t frame =
      let start = same_start_on i link in
      let time = ap (λ f. f link) (same_separation i) in
      let begun = frame.begun in
      let not_ended = frame.not_ended in
      record { begun = omega (arith, start, begun); not_ended = omega (arith, start, time, not_ended) }

  frame_of : (list : List ℕ) (i shift link t : ℕ) → FrameKeeps network list i shift link t → FrameKeeps (held network offsets) list i shift link t
  frame_of list i shift link t frame =
      let start = same_start_on i link in
      let time = ap (λ f. f link) (same_separation i) in
      let begun = frame.begun in
      let not_ended = frame.not_ended in
      record { begun = omega (arith, start, begun); not_ended = omega (arith, start, time, not_ended) }

  keeps_as : (list : List ℕ) (i link t : ℕ) → Keeps (held network offsets) list i link t → Keeps network list i link t
  keeps_as list i link t kept =
      record {
        shift = kept.shift;
        sent = subst (λ xs. Contains xs kept.shift) (same_shifts i) kept.sent;
        frame = frame_as list i kept.shift link t kept.frame;
      }

  keeps_of : (list : List ℕ) (i link t : ℕ) → Keeps network list i link t → Keeps (held network offsets) list i link t
  keeps_of list i link t kept =
      record {
        shift = kept.shift;
        sent = subst (λ xs. Contains xs kept.shift) (sym (same_shifts i)) kept.sent;
        frame = frame_of list i kept.shift link t kept.frame;
      }

  uses_as : (i link : ℕ) → UsesLink (held network offsets) i link → UsesLink network i link
  uses_as i link uses = subst IsSome (same_hop i link) uses

  uses_of : (i link : ℕ) → UsesLink network i link → UsesLink (held network offsets) i link
  uses_of i link uses = subst IsSome (sym (same_hop i link)) uses

  hops_same : (i : ℕ) → hop_count (held network offsets) i ≡ hop_count network i
  hops_same i = ap length (same_route i)

  -- a stream's window, by whether it has an offset already
  record Window (i : ℕ) (found : Option ℕ) : Type 0 where
    least : release_of (held network offsets) i ≡ (option_map_or (hold network i) found (stream_at network i)).release
    greatest : latest_of (held network offsets) i ≡ (option_map_or (hold network i) found (stream_at network i)).latest

  window_of : (i : ℕ) → i < stream_count network → Window i (had offsets i)
  unfolding release_of latest_of
  window_of i below = record { least = ap (λ (s : Stream). s.release) (stream_held i below); greatest = ap (λ (s : Stream). s.latest) (stream_held i below) }

  module _ (list : List ℕ) where
    record Bounds (i : ℕ) (found : Option ℕ) : Type 0 where
      released : release_of network i ≤ offset_of list i
      in_time : offset_of list i + arrival network i ≤ latest_of network i
      kept : (offset : ℕ) → found ≡ Some offset → offset_of list i ≡ offset

    bounds_as : (i : ℕ) → (found : Option ℕ) → Window i found
        → ((offset : ℕ) → found ≡ Some offset → (release_of network i ≡ 0) × (period_of network i ≤ latest_of network i))
        → release_of (held network offsets) i ≤ offset_of list i → offset_of list i + arrival network i ≤ latest_of (held network offsets) i
        → offset_of list i + arrival network i ≤ period_of network i
        → Bounds i found
    unfolding release_of latest_of
    bounds_as i None window alone released in_time arrived = record {
      released = subst (λ n. n ≤ offset_of list i) window.least released;
      in_time = subst (λ n. offset_of list i + arrival network i ≤ n) window.greatest in_time;
      kept = λ offset is. absurd (none-some offset is);
    }
    bounds_as i (Some offset) window alone released in_time arrived =
        let least = window.least in
        let greatest = window.greatest in
        let mine = alone offset refl in
        let first = mine.0 in
        let last = mine.1 in
        record {
          released = omega (arith, first);
          in_time = omega (arith, last, arrived);
          kept = λ other is. let same : offset ≡ other = ap (λ found. option_map_or (λ n. n) found 0) is in omega (arith, released, in_time, least, greatest, same);
        }

    record HeldBounds (i : ℕ) : Type 0 where
      released : release_of (held network offsets) i ≤ offset_of list i
      in_time : offset_of list i + arrival network i ≤ latest_of (held network offsets) i

    bounds_of : (i : ℕ) → (found : Option ℕ) → Window i found → ((offset : ℕ) → found ≡ Some offset → offset_of list i ≡ offset)
        → release_of network i ≤ offset_of list i → offset_of list i + arrival network i ≤ latest_of network i
        → offset_of list i + arrival network i ≤ 1000000000 → HeldBounds i
    unfolding release_of latest_of
    bounds_of i None window kept released in_time short = record {
      released = subst (λ n. n ≤ offset_of list i) (sym window.least) released;
      in_time = subst (λ n. offset_of list i + arrival network i ≤ n) (sym window.greatest) in_time;
    }
    bounds_of i (Some offset) window kept released in_time short =
        let least = window.least in
        let greatest = window.greatest in
        let same = kept offset refl in
        record { released = omega (arith, least, same); in_time = omega (arith, greatest, same, short) }

  counted_as : (i : ℕ) → i < stream_count network → i < stream_count (held network offsets)
  counted_as i below = rw same_count below

  counted_of : (i : ℕ) → i < stream_count (held network offsets) → i < stream_count network
  counted_of i below = subst (λ n. i < n) same_count below

  module _ (free : AreFree network offsets) (list : List ℕ) where
    bounds_in : IsValid (held network offsets) list → (i : ℕ) → i < stream_count network → Bounds list i (had offsets i)
    bounds_in valid i below =
        let arrives = same_arrival i in
        let there = valid.in_time i (counted_as i below) in
        let within = valid.arrived i (counted_as i below) in
        let period = same_period i in
        bounds_as list i (had offsets i) (window_of i below) (λ offset is. free i offset below is) (valid.released i (counted_as i below))
        (omega (arith, there, arrives)) (omega (arith, within, arrives, period))

    valid_as : IsValid (held network offsets) list → IsValid network list
    valid_as valid = record {
      count = valid.count ∙ same_count;
      released = λ i below. (bounds_in valid i below).released;
      ended = λ i k below inside.
          let ends = valid.ended i k (counted_as i below) (rw (hops_same i) inside) in
          let same = same_hop_end i k in
          let period = same_period i in
          omega (arith, ends, same, period);
      arrived = λ i below.
          let arrives = same_arrival i in
          let within = valid.arrived i (counted_as i below) in
          let period = same_period i in
          omega (arith, within, arrives, period);
      in_time = λ i below. (bounds_in valid i below).in_time;
      disjoint = λ i j link t other first second by_first by_second.
          valid.disjoint i j link t other (uses_of i link first) (uses_of j link second) (keeps_of list i link t by_first)
          (keeps_of list j link t by_second);
    }

    offsets_in : IsValid (held network offsets) list → HasOffsets network offsets list
    offsets_in valid i offset below is = (bounds_in valid i below).kept offset is

    held_bounds : IsWellFormed network → IsValid network list → HasOffsets network offsets list → (i : ℕ) → i < stream_count network → HeldBounds list i
    held_bounds formed valid has i below =
        let within = valid.arrived i below in
        let short = period-le network formed i in
        bounds_of list i (had offsets i) (window_of i below) (λ offset is. has i offset below is) (valid.released i below) (valid.in_time i below)
        (omega (arith, within, short))

    valid_of : IsWellFormed network → IsValid network list → HasOffsets network offsets list → IsValid (held network offsets) list
    valid_of formed valid has = record {
      count = valid.count ∙ sym same_count;
      released = λ i below. (held_bounds formed valid has i (counted_of i below)).released;
      ended = λ i k below inside.
          let ends = valid.ended i k (counted_of i below) (subst (λ n. k < n) (hops_same i) inside) in
          let same = same_hop_end i k in
          let period = same_period i in
          omega (arith, ends, same, period);
      arrived = λ i below.
          let arrives = same_arrival i in
          let within = valid.arrived i (counted_of i below) in
          let period = same_period i in
          omega (arith, within, arrives, period);
      in_time = λ i below.
          let arrives = same_arrival i in
          let there = (held_bounds formed valid has i (counted_of i below)).in_time in
          omega (arith, there, arrives);
      disjoint = λ i j link t other first second by_first by_second.
          valid.disjoint i j link t other (uses_as i link first) (uses_as j link second) (keeps_as list i link t by_first)
          (keeps_as list j link t by_second);
    }

    pub keeps_offsets : IsWellFormed network → IsValid (held network offsets) list ↔ (IsValid network list × HasOffsets network offsets list)
    keeps_offsets formed = ((λ valid. (valid_as valid, offsets_in valid)), λ both. valid_of formed both.0 both.1)
