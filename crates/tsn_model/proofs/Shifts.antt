-- The frames that a stream sends in a cycle.
use Rattle.std.proofs.Common.{◌≡◌, ℕ, suc, ◌+◌, ◌-◌, ◌*◌, ◌/◌, ◌≤◌, ◌<◌, ◌⊎◌, List, [], ◌∷◌, map, flat_map, sym, ap, ap₂, ◌∙◌, subst, arith, inl, inr, mul-le-mul, suc-mul}
use Rattle.std.proofs.Math.Nat.{div-le_self, mul-div-le, mod-add-div, div-one}
use Rattle.std.proofs.lemmas.Bool.{cases_order, cases_eq}
use Rattle.std.specs.List.{range_with_len}
use Rattle.tsn_model.specs.Network.{Network, IsWellFormed, IsStream, stream_count, no_stream, stream_at, period_of, burst_of, turns_of}
use Rattle.tsn_model.specs.Timing.{pace, spread, shifts, Sends}
use Rattle.tsn_model.proofs.Lists.{in_range, from_map, from_flat_map, Contains-range, Contains-map, Contains-flat_map}

-- the end of one of some equal parts is no later than the beginning of a later one
pub part_below : (a b size : ℕ) → a < b → a * size + size ≤ b * size
part_below a b size less =
    let same : size ≤ size = omega arith in
    let whole : suc a * size ≤ b * size = mul-le-mul less same in
    let more = suc-mul a size in
    omega arith

-- which frame of which period it is
pub record Parts (network : Network) (i shift : ℕ) : Type 0 where
  pub turn : ℕ
  pub place : ℕ
  pub in_cycle : turn < turns_of network i
  pub in_burst : place < burst_of network i
  pub is : shift ≡ turn * period_of network i + place * pace network i

module _ (network : Network) (i : ℕ) where
  abbrev of_turn : ℕ → List ℕ
  of_turn turn = map (λ place. turn * period_of network i + place * pace network i) (range_with_len 0 (burst_of network i))

  pub parts_of : (shift : ℕ) → Sends network i shift → Parts network i shift
  unfolding shifts
  parts_of shift sent =
      let turn = from_flat_map of_turn (range_with_len 0 (turns_of network i)) shift sent in
      let place = from_map (λ place. turn.0 * period_of network i + place * pace network i) (range_with_len 0 (burst_of network i)) shift turn.2 in
      let in_cycle = in_range (turns_of network i) 0 turn.0 turn.1 in
      let in_burst = in_range (burst_of network i) 0 place.0 place.1 in
      record { turn = turn.0; place = place.0; in_cycle = omega arith; in_burst = omega arith; is = sym place.2 }

  pub sent_from : (turn place : ℕ) → turn < turns_of network i → place < burst_of network i
      → Sends network i (turn * period_of network i + place * pace network i)
  unfolding shifts
  sent_from turn place in_cycle in_burst =
      Contains-flat_map of_turn (range_with_len 0 (turns_of network i)) turn _ (Contains-range (turns_of network i) 0 turn (omega arith) (omega arith))
      (Contains-map (λ place. turn * period_of network i + place * pace network i) (range_with_len 0 (burst_of network i)) place
      (Contains-range (burst_of network i) 0 place (omega arith) (omega arith)))

  pub turns-mul-le : turns_of network i * period_of network i ≤ network.cycle
  unfolding period_of
  turns-mul-le = mul-div-le network.cycle (turns_of network i)

  pub place-le : (place : ℕ) → place < burst_of network i → place * pace network i ≤ spread network i
  unfolding spread
  place-le place below =
      let fewer : place ≤ burst_of network i - 1 = omega arith in
      let same : pace network i ≤ pace network i = omega arith in
      mul-le-mul fewer same

  -- the beginning of the frame's period
  pub record Turn (shift : ℕ) : Type 0 where
    pub begin : ℕ
    pub within : begin + period_of network i ≤ network.cycle
    pub low : begin ≤ shift
    pub high : shift ≤ begin + spread network i

  pub turn_of : (shift : ℕ) → Sends network i shift → Turn shift
  turn_of shift sent =
      let parts = parts_of shift sent in
      let whole = turns-mul-le in
      let below = part_below parts.turn (turns_of network i) (period_of network i) parts.in_cycle in
      let place = place-le parts.place parts.in_burst in
      record { begin = parts.turn * period_of network i; within = omega arith; low = omega arith; high = omega arith }

  -- frames of one stream are apart on each link on which a period has room for them
  pub shifts_apart : (first second time : ℕ) → Sends network i first → Sends network i second → (first ≡ second → ⊥) → time ≤ pace network i
      → spread network i + time ≤ period_of network i
      → (first + time ≤ second) ⊎ (second + time ≤ first)
  shifts_apart first second time first_sent second_sent differ short room =
      let a = parts_of first first_sent in
      let b = parts_of second second_sent in
      let a_place = place-le a.place a.in_burst in
      let b_place = place-le b.place b.in_burst in
      elim (cases_order a.turn b.turn) [
        | inl same ↦
            let begins : a.turn * period_of network i ≡ b.turn * period_of network i = ap (λ t. t * period_of network i) same in
            elim (cases_order a.place b.place) [
              | inl one ↦
                  let places : a.place * pace network i ≡ b.place * pace network i = ap (λ p. p * pace network i) one in
                  absurd (differ (omega arith))
              | inr other ↦ elim other [
                | inl less ↦ let gap = part_below a.place b.place (pace network i) less in inl (omega arith)
                | inr more ↦ let gap = part_below b.place a.place (pace network i) more in inr (omega arith)
              ]
            ]
        | inr other ↦ elim other [
          | inl less ↦ let gap = part_below a.turn b.turn (period_of network i) less in inl (omega arith)
          | inr more ↦ let gap = part_below b.turn a.turn (period_of network i) more in inr (omega arith)
        ]
      ]

  -- ---- limits

  period_stream : IsWellFormed network → i < stream_count network → IsStream network (stream_at network i)
  unfolding stream_at
  period_stream formed below = formed.streams i no_stream below

  pub turns-pos : IsWellFormed network → i < stream_count network → 1 ≤ turns_of network i
  unfolding turns_of
  turns-pos formed below = (period_stream formed below).some_turn

  pub burst-pos : IsWellFormed network → i < stream_count network → 1 ≤ burst_of network i
  unfolding burst_of
  burst-pos formed below = (period_stream formed below).some_frame

  -- the periods make the cycle
  pub whole_cycle : IsWellFormed network → i < stream_count network → turns_of network i * period_of network i ≡ network.cycle
  unfolding turns_of period_of
  whole_cycle formed below =
      let whole = (period_stream formed below).whole_periods in
      let split = mod-add-div network.cycle (stream_at network i).turns in
      omega arith

  pub period-le-cycle : period_of network i ≤ network.cycle
  unfolding period_of
  period-le-cycle = div-le_self network.cycle (turns_of network i)

  pub period-pos : IsWellFormed network → i < stream_count network → 1 ≤ period_of network i
  period-pos formed below = elim (cases_eq (period_of network i) 0) [
    | inl none ↦
        let whole = whole_cycle formed below in
        let no_time : turns_of network i * period_of network i ≡ turns_of network i * 0 = ap (λ t. turns_of network i * t) none in
        absurd (omega arith)
    | inr some ↦ omega arith
  ]

  -- ---- one frame a cycle

  pub single_period : turns_of network i ≡ 1 → period_of network i ≡ network.cycle
  unfolding period_of
  single_period one = ap (λ n. network.cycle / n) one ∙ div-one network.cycle

  pub single_spread : burst_of network i ≡ 1 → spread network i ≡ 0
  unfolding spread
  single_spread one = let none : (burst_of network i - 1) * pace network i ≡ (1 - 1) * pace network i = ap (λ n. (n - 1) * pace network i) one in omega arith

  pub single_shift : turns_of network i ≡ 1 → burst_of network i ≡ 1 → shifts network i ≡ 0 ∷ []
  unfolding shifts
  single_shift turn frame =
      ap₂ (λ n m. flat_map (λ t. map (λ p. t * period_of network i + p * pace network i) (range_with_len 0 m)) (range_with_len 0 n)) turn frame
      ∙ ap (λ shift. shift ∷ []) zero_shift
    where
      zero_shift : 0 * period_of network i + 0 * pace network i ≡ 0
      zero_shift = omega arith

  -- a stream's first frame starts at its offset
  pub first_sent : IsWellFormed network → i < stream_count network → Sends network i 0
  first_sent formed below =
      let some = turns-pos formed below in
      let frame = burst-pos formed below in
      let is : 0 * period_of network i + 0 * pace network i ≡ 0 = omega arith in
      subst (Sends network i) is (sent_from 0 0 (omega arith) (omega arith))
