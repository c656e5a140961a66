-- When a frame starts on the links of its route.
use Rattle.std.proofs.Common.{◌≡◌, ◌≢◌, ℕ, zero, suc, ◌+◌, ◌-◌, ◌*◌, ◌≤◌, ◌<◌, refl, sym, ap, ◌∙◌, arith, inl, inr, suc-mul, eq-eqb, ne_eqb}
use Rattle.std.proofs.lemmas.Bool.{cases_lt, cases_eq, cond-true, cond-false}
use Rattle.tsn_model.specs.Network.{Network, IsRoute, route_of, hop_count, route_link, from_at, to_at, IsSent, Continues}
use Rattle.tsn_model.specs.Timing.{hop_delay, ready_after, start_on, start}
use Rattle.tsn_model.proofs.Branches.{follow_cases, continued_once, continues-before}

-- ---- one link more

module _ (network : Network) (i : ℕ) where
  pub ready-zero : (node : ℕ) → ready_after network i 0 node ≡ 0
  unfolding ready_after
  ready-zero node = refl

  pub ready-ends : (count node : ℕ) → to_at network (route_of network i) count ≡ node
      → ready_after network i (suc count) node ≡ ready_after network i count (from_at network (route_of network i) count) + hop_delay network i (route_link network i count)
  unfolding ready_after
  ready-ends count node ends = cond-true _ _ _ (eq-eqb (to_at network (route_of network i) count) node ends)

  pub ready-else : (count node : ℕ) → to_at network (route_of network i) count ≢ node
      → ready_after network i (suc count) node ≡ ready_after network i count node
  unfolding ready_after
  ready-else count node elsewhere = cond-false _ _ _ (ne_eqb (to_at network (route_of network i) count) node elsewhere)

  -- links that end elsewhere change nothing
  pub ready-stays : (a b node : ℕ) → a ≤ b → ((m : ℕ) → a ≤ m → m < b → to_at network (route_of network i) m ≢ node)
      → ready_after network i b node ≡ ready_after network i a node
  ready-stays a zero node above none = ap (λ n. ready_after network i n node) (omega arith)
  ready-stays a (suc b) node above none = elim (cases_lt b a) [
    | inl last ↦ ap (λ n. ready_after network i n node) (omega arith)
    | inr more ↦
        ready-else b node (none b more (omega arith))
        ∙ ready-stays a b node more (λ m low high. none m low (omega arith))
  ]

  -- from the last link back
  pub back-ends : (step time node : ℕ) → step < hop_count network i → to_at network (route_of network i) (hop_count network i - 1 - step) ≡ node
      → time + ready_after network i (hop_count network i - step) node
      ≡ time + hop_delay network i (route_link network i (hop_count network i - 1 - step))
      + ready_after network i (hop_count network i - (step + 1)) (from_at network (route_of network i) (hop_count network i - 1 - step))
  back-ends step time node below ends =
      let last : ready_after network i (hop_count network i - step) node ≡ ready_after network i (suc (hop_count network i - 1 - step)) node =
      ap (λ n. ready_after network i n node) (omega arith) in
      let more = ready-ends (hop_count network i - 1 - step) node ends in
      let rest : ready_after network i (hop_count network i - 1 - step) (from_at network (route_of network i) (hop_count network i - 1 - step))
      ≡ ready_after network i (hop_count network i - (step + 1)) (from_at network (route_of network i) (hop_count network i - 1 - step)) =
      ap (λ n. ready_after network i n (from_at network (route_of network i) (hop_count network i - 1 - step))) (omega arith) in
      omega arith

  pub back-else : (step node : ℕ) → step < hop_count network i → to_at network (route_of network i) (hop_count network i - 1 - step) ≢ node
      → ready_after network i (hop_count network i - step) node ≡ ready_after network i (hop_count network i - (step + 1)) node
  back-else step node below elsewhere =
      ap (λ n. ready_after network i n node) (omega arith) ∙ ready-else (hop_count network i - 1 - step) node elsewhere
      ∙ ap (λ n. ready_after network i n node) (omega arith)

  -- each link adds a delay at most
  pub ready-le : (most : ℕ) → ((k : ℕ) → k < hop_count network i → hop_delay network i (route_link network i k) ≤ most)
      → (count node : ℕ) → count ≤ hop_count network i → ready_after network i count node ≤ count * most
  ready-le most each zero node short = let none = ready-zero node in omega arith
  ready-le most each (suc count) node short =
      let whole = suc-mul count most in
      elim (cases_eq (to_at network (route_of network i) count) node) [
        | inl ends ↦
            let is = ready-ends count node ends in
            let before = ready-le most each count (from_at network (route_of network i) count) (omega arith) in
            let delay = each count (omega arith) in
            omega arith
        | inr elsewhere ↦
            let is = ready-else count node elsewhere in
            let before = ready-le most each count node (omega arith) in
            omega arith
      ]

-- ---- a route

module _ (network : Network) (i : ℕ) (route : IsRoute network (route_of network i)) where
  -- where a link begins a frame is ready as soon as the links before it have carried it
  pub ready-from : (k count : ℕ) → k < hop_count network i → k ≤ count → count ≤ hop_count network i
      → ready_after network i count (from_at network (route_of network i) k) ≡ ready_after network i k (from_at network (route_of network i) k)
  ready-from k count below above short =
      ready-stays network i k count (from_at network (route_of network i) k) above
      (λ m low high ends. let before = continues-before network (route_of network i) route m k (omega arith) below ends in omega arith)

  -- the talker sends at once
  pub start-sent : (k : ℕ) → IsSent network (route_of network i) k → start network i k ≡ 0
  unfolding start start_on
  start-sent k sent =
      ready-stays network i 0 (hop_count network i) (from_at network (route_of network i) k) (omega arith)
      (λ m low high ends. route.none_returns m high (ends ∙ sent))
      ∙ ready-zero network i (from_at network (route_of network i) k)

  -- and each link that continues one starts by its delay after it
  pub start-continues : (j k : ℕ) → j < hop_count network i → k < hop_count network i → Continues network (route_of network i) j k
      → start network i k ≡ start network i j + hop_delay network i (route_link network i j)
  unfolding start start_on
  start-continues j k j_below k_below continues =
      ready-stays network i (suc j) (hop_count network i) (from_at network (route_of network i) k) (omega arith)
      (λ m low high ends. let same = continued_once network (route_of network i) route m j k high j_below k_below ends continues in omega arith)
      ∙ ready-ends network i j (from_at network (route_of network i) k) continues
      ∙ ap (λ time. time + hop_delay network i (route_link network i j)) (sym (ready-from j (hop_count network i) j_below (omega arith) (omega arith)))

  -- so these say all starts
  pub starts_one : (other : ℕ → ℕ) → ((k : ℕ) → k < hop_count network i → IsSent network (route_of network i) k → other k ≡ 0)
      → ((j k : ℕ) → j < hop_count network i → k < hop_count network i → Continues network (route_of network i) j k
      → other k ≡ other j + hop_delay network i (route_link network i j))
      → (bound k : ℕ) → k < bound → k < hop_count network i → other k ≡ start network i k
  starts_one other sent_is continued_is zero k low below = absurd (omega arith)
  starts_one other sent_is continued_is (suc bound) k low below = elim (follow_cases network (route_of network i) route k below) [
    | inl sent ↦ sent_is k below sent ∙ sym (start-sent k sent)
    | inr (before, less, from) ↦
        continued_is before k (omega arith) below from
        ∙ ap (λ time. time + hop_delay network i (route_link network i before)) (starts_one other sent_is continued_is bound before (omega arith) (omega arith))
        ∙ sym (start-continues before k (omega arith) below from)
  ]
