-- What listeners hear.
use Rattle.std.proofs.Common.{◌≡◌, ℕ, zero, suc, ◌+◌, ◌*◌, ◌≤◌, ◌<◌, ◌⊎◌, max, map, [], ap, ◌∙◌, subst, arith, inl, inr, mul-pos}
use Rattle.std.specs.List.{range_with_len}
use Rattle.std.proofs.lemmas.Bool.{cases_lt, cases_eq}
use Rattle.tsn_model.specs.Network.{Network, IsWellFormed, IsRoute, stream_count, burst_of, link_at, octets_of, route_of, hop_count, route_link, from_at, to_at, Continues, IsHeard}
use Rattle.tsn_model.specs.Timing.{transfer, hop_delay, pace, start, hop_arrival, arrival, greatest}
use Rattle.tsn_model.proofs.Lists.{greatest_more, le-greatest-range}
use Rattle.tsn_model.proofs.Shifts.{place-le}
use Rattle.tsn_model.proofs.Starts.{start-continues}
use Rattle.tsn_model.proofs.Routes.{rate-pos}
use Rattle.tsn_model.proofs.Limits.{hops-pos, route_exists}
use Rattle.tsn_model.proofs.Hops.{route_formed}

-- the greatest is one of them
record Attained (f : ℕ → ℕ) (n : ℕ) : Type 0 where
  at : ℕ
  below : at < n
  is : f at ≡ greatest (map f (range_with_len 0 n))

none_greatest : (f : ℕ → ℕ) → greatest (map f (range_with_len 0 0)) ≡ 0
unfolding greatest
none_greatest f = omega arith

attained : (f : ℕ → ℕ) (n : ℕ) → 0 < n → Attained f n
attained f zero some = absurd (omega arith)
attained f (suc n) some =
    let count : suc n ≡ n + 1 = omega arith in
    let whole : greatest (map f (range_with_len 0 (suc n))) ≡ max (greatest (map f (range_with_len 0 n))) (f n) =
    ap (λ m. greatest (map f (range_with_len 0 m))) count ∙ greatest_more f [] n in
    elim (cases_lt (f n) (greatest (map f (range_with_len 0 n)))) [
      | inr last ↦ record { at = n; below = omega arith; is = omega arith }
      | inl before ↦ elim (cases_lt 0 n) [
        | inl more ↦ let rest = attained f n more in record { at = rest.at; below = let low = rest.below in omega arith; is = rest.is ∙ omega arith }
        | inr none ↦
            let zero_long : n ≡ 0 = omega arith in
            let empty : greatest (map f (range_with_len 0 n)) ≡ 0 = ap (λ m. greatest (map f (range_with_len 0 m))) zero_long ∙ none_greatest f in
            absurd (omega arith)
      ]
    ]

module _ (network : Network) (formed : IsWellFormed network) (i : ℕ) (counted : i < stream_count network) where
  route : IsRoute network (route_of network i)
  route = route_formed network formed i counted

  -- the end of each link
  pub hop_arrival-le-arrival : (k : ℕ) → k < hop_count network i → hop_arrival network i k ≤ arrival network i
  unfolding arrival
  hop_arrival-le-arrival k below = le-greatest-range (hop_arrival network i) (hop_count network i) 0 k (omega arith) (omega arith)

  -- what continues a link ends later
  ends_later : (k next : ℕ) → k < hop_count network i → next < hop_count network i → Continues network (route_of network i) k next
      → hop_arrival network i k < hop_arrival network i next
  unfolding hop_arrival hop_delay transfer
  ends_later k next below next_below continues =
      let step = start-continues network i route k next below next_below continues in
      let rate = rate-pos network formed (route_link network i next) (route_exists network formed i counted next 0 next_below) in
      let product : 0 < (octets_of network i + 8) * (link_at network (route_link network i next)).octet_time = mul-pos (omega arith) rate in
      omega arith

  -- whether a link below a place continues one
  continued_cases : (k bound : ℕ) → ((next : ℕ) × (next < bound) × Continues network (route_of network i) k next)
      ⊎ ((next : ℕ) → next < bound → Continues network (route_of network i) k next → ⊥)
  continued_cases k zero = inr (λ next below continues. absurd (omega arith))
  continued_cases k (suc bound) = elim (continued_cases k bound) [
    | inl (next, below, continues) ↦ inl (next, omega arith, continues)
    | inr none ↦ elim (cases_eq (to_at network (route_of network i) k) (from_at network (route_of network i) bound)) [
      | inl here ↦ inl (bound, omega arith, here)
      | inr not_here ↦ inr (λ next below continues. elim (cases_lt next bound) [
        | inl low ↦ none next low continues
        | inr last ↦
            let same : next ≡ bound = omega arith in
            not_here (subst (Continues network (route_of network i) k) same continues)
      ])
    ]
  ]

  -- the last end is a listener's
  pub last_heard : (k : ℕ) × (k < hop_count network i) × IsHeard network (route_of network i) k × (hop_arrival network i k ≡ arrival network i)
  unfolding arrival
  last_heard =
      let found = attained (hop_arrival network i) (hop_count network i) (let some = hops-pos network formed i counted in omega arith) in (
        found.at,
        found.below,
        (λ next below continues.
            let more = ends_later found.at next found.below below continues in
            let most = le-greatest-range (hop_arrival network i) (hop_count network i) 0 next (omega arith) (omega arith) in
            let is = found.is in
            absurd (omega arith)),
        found.is,
      )

  -- each frame of a period is at a link's end by the arrival, counted from the period's first frame
  pub frame_heard : (k place : ℕ) → k < hop_count network i → place < burst_of network i
      → place * pace network i + start network i k + transfer network i (route_link network i k) ≤ arrival network i
  unfolding hop_arrival
  frame_heard k place below in_burst =
      let last = hop_arrival-le-arrival k below in
      let within = place-le network i place in_burst in
      omega arith
