-- Passages of frames, the instants of a cycle, and the hops of a route.
use Rattle.std.proofs.Common.{◌≡◌, ℕ, suc, ◌+◌, ◌*◌, ◌≤◌, ◌<◌, ◌⊎◌, List, [], ◌∷◌, length, Contains, refl, sym, ap, subst, arith, inl, inr, mul-le-mul, mul-pos, suc-mul, ◌==◌, nat_lt, is_some, Some, None, lt-ltb, eq-eqb, ne_eqb}
use Rattle.std.specs.List.{position_or_len}
use Rattle.std.proofs.lemmas.Bool.{cases_lt, cases_eq, cases_order, cond-true}
use Rattle.std.proofs.lemmas.List.Sums.{position_or_len_is}
use Rattle.tsn_model.specs.Network.{Network, IsWellFormed, IsRoute, stream_count, no_stream, stream_at, octets_of, route_of, hop_count, route_link, link_at}
use Rattle.tsn_model.specs.Timing.{occupancy, transfer, hop_delay, start, hop_on, UsesLink, start_on}
use Rattle.tsn_model.specs.Bridge.{Passage, ScheduledStart}
use Rattle.tsn_model.proofs.Lists.{Contains-cons_cases, Contains-nil, Contains-head, Contains-more}
use Rattle.tsn_model.proofs.Routes.{rate-pos}

-- ---- passages that started

pub passage_cases : (a b : Passage) → (a ≡ b) ⊎ (a ≡ b → ⊥)
passage_cases a b = elim (cases_eq a.stream b.stream) [
  | inr differ ↦ inr (λ same. differ (ap (λ (p : Passage). p.stream) same))
  | inl stream ↦ elim (cases_eq a.cycle b.cycle) [
    | inr differ ↦ inr (λ same. differ (ap (λ (p : Passage). p.cycle) same))
    | inl cycle ↦ elim (cases_eq a.hop b.hop) [
      | inr differ ↦ inr (λ same. differ (ap (λ (p : Passage). p.hop) same))
      | inl hop ↦ elim (cases_eq a.shift b.shift) [
        | inr differ ↦ inr (λ same. differ (ap (λ (p : Passage). p.shift) same))
        | inl shift ↦ inl (λ i. record { stream = stream i; shift = shift i; cycle = cycle i; hop = hop i })
      ]
    ]
  ]
]

pub record Started (starts : List ScheduledStart) (passage : Passage) (t : ℕ) : Type 0 where
  pub time : ℕ
  pub at : Contains starts (record { passage = passage; time = time })
  pub before : time < t

-- a passage started before an instant, or it did not
pub started_cases : (starts : List ScheduledStart) (passage : Passage) (t : ℕ)
    → Started starts passage t ⊎ ((s : ℕ) → Contains starts (record { passage = passage; time = s }) → t ≤ s)
started_cases [] passage t = inr (λ s has. absurd (Contains-nil _ has))
started_cases (first ∷ starts) passage t = elim (started_cases starts passage t) [
  | inl started ↦ inl (record { time = started.time; at = Contains-more first starts _ started.at; before = started.before })
  | inr none ↦ elim (passage_cases first.passage passage) [
    | inr differ ↦ inr (λ s has. elim (Contains-cons_cases first starts _ has) [
      | inl same ↦ absurd (differ (ap (λ (x : ScheduledStart). x.passage) same))
      | inr later ↦ none s later
    ])
    | inl is ↦ elim (cases_lt first.time t) [
      | inl early ↦ inl (record {
        time = first.time;
        at = subst (λ p. Contains (first ∷ starts) (record { passage = p; time = first.time })) is
            (Contains-head first starts);
        before = early;
      })
      | inr late ↦ inr (λ s has. elim (Contains-cons_cases first starts _ has) [
        | inl same ↦ let time = ap (λ (x : ScheduledStart). x.time) same in omega arith
        | inr later ↦ none s later
      ])
    ]
  ]
]

-- ---- instants of a cycle

pub cycle_below : (a b size : ℕ) → a < b → a * size + size ≤ b * size
cycle_below a b size less =
    let same : size ≤ size = omega arith in
    let whole : suc a * size ≤ b * size = mul-le-mul less same in
    let more = suc-mul a size in
    omega arith

-- two instants of cycles that are one are of one cycle
pub same_cycle : (a b size s t : ℕ) → s < size → t < size → a * size + s ≡ b * size + t → a ≡ b
same_cycle a b size s t s_below t_below same = elim (cases_order a b) [
  | inl is ↦ is
  | inr differ ↦ elim differ [
    | inl less ↦ let gap = cycle_below a b size less in absurd (omega arith)
    | inr more ↦ let gap = cycle_below b a size more in absurd (omega arith)
  ]
]

-- ---- the hops of a route

module _ (network : Network) (formed : IsWellFormed network) (i : ℕ) (counted : i < stream_count network) where
  pub route_formed : IsRoute network (route_of network i)
  unfolding route_of stream_at
  route_formed = (formed.streams i no_stream counted).route

  links_differ : (j k : ℕ) → j < k → k < hop_count network i → route_link network i j ≡ route_link network i k → ⊥
  links_differ j k order below same = route_formed.no_link_twice j k 0 order below same

  first_place : (k : ℕ) → k < hop_count network i → position_or_len (λ hop. hop == route_link network i k) (route_of network i) ≡ k
  first_place k below =
      position_or_len_is (λ hop. hop == route_link network i k) (route_of network i) k 0 (omega arith)
      (λ j earlier. ne_eqb _ _ (links_differ j k earlier below)) (λ within. eq-eqb _ _ refl)

  pub hop_uses : (k : ℕ) → k < hop_count network i → UsesLink network i (route_link network i k)
  unfolding hop_on
  hop_uses k below =
      let place = first_place k below in
      ap is_some (cond-true (nat_lt (position_or_len (λ hop. hop == route_link network i k) (route_of network i)) (length (route_of network i)))
      (Some (position_or_len (λ hop. hop == route_link network i k) (route_of network i))) None (lt-ltb _ _ (omega arith)))

  pub hop_start : (k : ℕ) → k < hop_count network i → start_on network i (route_link network i k) ≡ start network i k
  unfolding start
  hop_start k below = refl

  -- a stream uses a link on one hop alone
  pub hop_once : (j k : ℕ) → j < hop_count network i → k < hop_count network i → route_link network i j ≡ route_link network i k → j ≡ k
  hop_once j k j_below k_below same = elim (cases_order j k) [
    | inl is ↦ is
    | inr differ ↦ elim differ [
      | inl less ↦ absurd (links_differ j k less k_below same)
      | inr more ↦ absurd (links_differ k j more j_below (sym same))
    ]
  ]

  pub link_exists : (k : ℕ) → k < hop_count network i → route_link network i k < length network.links
  link_exists k below = route_formed.links_exist k 0 below

  pub hop_delay-pos : (k : ℕ) → k < hop_count network i → 0 < hop_delay network i (route_link network i k)
  unfolding hop_delay transfer occupancy
  hop_delay-pos k below =
      let rate = rate-pos network formed (route_link network i k) (link_exists k below) in
      let product : 0 < (octets_of network i + 8) * (link_at network (route_link network i k)).octet_time = mul-pos (omega arith) rate in
      omega arith
