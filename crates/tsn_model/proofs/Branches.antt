-- Which link of a route continues which.
use Rattle.std.proofs.Common.{◌≡◌, ℕ, zero, suc, subst, ◌<◌, ◌⊎◌, List, length, ◌∙◌, arith, inl, inr}
use Rattle.std.proofs.lemmas.Bool.{cases_lt, cases_eq, cases_order}
use Rattle.tsn_model.specs.Network.{Network, IsRoute, from_at, to_at, IsSent, Continues}

-- what follows, and what the limits say of it
pub follows : (network : Network) (route : List ℕ) (k : ℕ) → IsSent network route k ⊎ ((j : ℕ) × (j < k) × Continues network route j k)
    → (IsSent network route k → ⊥) → ((j : ℕ) → j < k → Continues network route j k → ⊥) → ⊥
follows network route k (inl sent) not_sent none = not_sent sent
follows network route k (inr (j, less, continues)) not_sent none = none j less continues

-- a link before a place that the one of place k continues, if there is one
before_cases : (network : Network) (route : List ℕ) (k bound : ℕ) → ((j : ℕ) × (j < bound) × Continues network route j k)
    ⊎ ((j : ℕ) → j < bound → Continues network route j k → ⊥)
before_cases network route k zero = inr (λ j below continues. absurd (omega arith))
before_cases network route k (suc bound) = elim (before_cases network route k bound) [
  | inl (j, less, continues) ↦ inl (j, omega arith, continues)
  | inr none ↦ elim (cases_eq (to_at network route bound) (from_at network route k)) [
    | inl here ↦ inl (bound, omega arith, here)
    | inr not_here ↦ inr (λ j below continues. elim (cases_lt j bound) [
      | inl low ↦ none j low continues
      | inr last ↦
          let same : j ≡ bound = omega arith in
          not_here (subst (λ n. Continues network route n k) same continues)
    ])
  ]
]

module _ (network : Network) (route : List ℕ) (is : IsRoute network route) where
  pub follow_cases : (k : ℕ) → k < length route → IsSent network route k ⊎ ((j : ℕ) × (j < k) × Continues network route j k)
  follow_cases k below = elim (cases_eq (from_at network route k) (from_at network route 0)) [
    | inl sent ↦ inl sent
    | inr not_sent ↦ elim (before_cases network route k k) [
      | inl found ↦ inr found
      | inr none ↦ absurd (is.links_follow k below not_sent none)
    ]
  ]

  -- a link continues one link at most
  pub continued_once : (j k next : ℕ) → j < length route → k < length route → next < length route
      → Continues network route j next → Continues network route k next → j ≡ k
  continued_once j k next j_below k_below below from_j from_k = elim (cases_order j k) [
    | inl same ↦ same
    | inr differ ↦ elim differ [
      | inl less ↦ absurd (is.entered_once j k next less k_below below from_j from_k)
      | inr more ↦ absurd (is.entered_once k j next more j_below below from_k from_j)
    ]
  ]

  -- and none where the talker sends
  pub sent_alone : (j k : ℕ) → j < length route → Continues network route j k → IsSent network route k → ⊥
  sent_alone j k below continues sent = is.none_returns j below (continues ∙ sent)

  -- the one that it continues stands before it
  pub continues-before : (j k : ℕ) → j < length route → k < length route → Continues network route j k → j < k
  continues-before j k j_below k_below continues = elim (follow_cases k k_below) [
    | inl sent ↦ absurd (sent_alone j k j_below continues sent)
    | inr (before, less, from) ↦
        let same = continued_once j before k j_below (omega arith) k_below continues from in
        omega arith
  ]

  pub follow_one : (k : ℕ) → k < length route
      → (IsSent network route k ⊎ ((j : ℕ) × (j < k) × Continues network route j k))
      × ((j : ℕ) → j < length route → Continues network route j k → IsSent network route k → ⊥)
      × ((j other : ℕ) → j < length route → other < length route → Continues network route j k → Continues network route other k → (j < k) × (j ≡ other))
  follow_one k below = (
    follow_cases k below,
    (λ j j_below. sent_alone j k j_below),
    (λ j other j_below other_below from_j from_other.
        (continues-before j k j_below below from_j, continued_once j other k j_below other_below below from_j from_other)),
  )
