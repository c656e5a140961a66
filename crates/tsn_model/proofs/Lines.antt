-- Routes without branches.
use Rattle.std.proofs.Common.{◌≡◌, ◌≢◌, ℕ, zero, suc, ◌+◌, ◌-◌, ◌≤◌, ◌<◌, ◌⊎◌, ◌↔◌, max, List, [], ◌∷◌, length, get_or, map, take, sum_by, ◌==◌, refl, sym, ap, ap₂, ◌∙◌, subst, arith, inl, inr, eqb-true}
use Rattle.std.specs.List.{AllAdjacentBelow, range_with_len, position_or_len}
use Rattle.std.proofs.Math.ListN.{get_or-map, length-map}
use Rattle.std.proofs.lemmas.List.Sums.{passes_at_first, sum_by_more}
use Rattle.std.proofs.lemmas.List.Kept.{AllPairs-cons}
use Rattle.std.proofs.lemmas.List.{get_or_default}
use Rattle.std.proofs.lemmas.Bool.{cases_lt, cases_eq}
use Rattle.tsn_model.specs.Network.{Network, IsRoute, link_at, route_of, hop_count, route_link, from_at, to_at, IsSent, Continues}
use Rattle.tsn_model.specs.Timing.{separation, transfer, hop_delay, spread, start_on, start, hop_arrival, arrival, hop_end, span, greatest, hop_on, UsesLink}
use Rattle.tsn_model.specs.Lines.{nodes_along, IsLine, line_start, line_start_on, line_arrival, line_end, line_span}
use Rattle.tsn_model.proofs.Lists.{AllPairs-tail, greatest-le, le-greatest-range, All-map-range, greatest_more}
use Rattle.tsn_model.proofs.Branches.{follows, continued_once, sent_alone}
use Rattle.tsn_model.proofs.Starts.{start-sent, start-continues}
use Rattle.tsn_model.proofs.Routes.{within_list}

-- ---- a line is a route

module _ (network : Network) (route : List ℕ) (line : IsLine network route) where
  abbrev to : ℕ → ℕ
  to link = (link_at network link).to

  ends_apart : (j k : ℕ) → j < k → k < length route → to_at network route j ≡ to_at network route k → ⊥
  unfolding nodes_along
  ends_apart j k order below same =
      let long : length (map to route) ≡ length route = simp length-map in
      let apart = AllPairs-tail ◌≢◌ (from_at network route 0) (map to route) line.no_node_twice j k (to 0) order (subst (λ n. k < n) (sym long) below) in
      apart (get_or-map to route j 0 ∙ (same ∙ sym (get_or-map to route k 0)))

  returns_never : (k : ℕ) → k < length route → to_at network route k ≢ from_at network route 0
  unfolding nodes_along
  returns_never k below same =
      let long : length (map to route) ≡ length route = simp length-map in
      let apart : from_at network route 0 ≢ get_or (map to route) k (to 0) = line.no_node_twice 0 (suc k) (to 0) (omega arith) (omega arith) in
      apart (sym (get_or-map to route k 0 ∙ same))

  connected : (k : ℕ) → k + 1 < length route → Continues network route k (k + 1)
  connected k below = line.links_connect k 0 below

  pub line_route : IsRoute network route
  line_route = record {
    some_link = line.some_link;
    few_links = line.few_links;
    links_exist = line.links_exist;
    no_link_twice = λ j k d order below same.
        ends_apart j k order below (ap to (sym (get_or-same j d (omega arith)) ∙ same ∙ get_or-same k d below));
    links_follow = λ k below. follows network route k (follow k below);
    none_returns = returns_never;
    entered_once = λ j k next order below next_below from_j from_k. ends_apart j k order below (from_j ∙ sym from_k);
  }
    where
      get_or-same : (k d : ℕ) → k < length route → get_or route k d ≡ get_or route k 0
      get_or-same k d below = get_or_default route k d 0 below

      follow : (k : ℕ) → k < length route → (from_at network route k ≡ from_at network route 0) ⊎ ((j : ℕ) × (j < k) × Continues network route j k)
      follow zero below = inl refl
      follow (suc k) below = inr (k, omega arith, subst (Continues network route k) (omega arith) (connected k (omega arith)))

module _ (network : Network) (route : List ℕ) (line : IsLine network route) where
  from_before : (k : ℕ) → k < length route → (k ≡ 0 → ⊥) → Continues network route (k - 1) k
  from_before k below later =
      let next : k - 1 + 1 ≡ k = omega arith in
      subst (Continues network route (k - 1)) next (connected network route line (k - 1) (omega arith))

  sent_first : (k : ℕ) → k < length route → IsSent network route k → k ≡ 0
  sent_first k below sent = elim (cases_eq k 0) [
    | inl first ↦ first
    | inr later ↦ absurd (sent_alone network route (line_route network route line) (k - 1) k (omega arith) (from_before k below later) sent)
  ]

  follows_one : (j k : ℕ) → j < length route → k < length route → Continues network route j k → k ≡ j + 1
  follows_one j k j_below below continues = elim (cases_eq k 0) [
    | inl first ↦ absurd (sent_alone network route (line_route network route line) j k j_below continues (ap (from_at network route) first))
    | inr later ↦
        let one = continued_once network route (line_route network route line) j (k - 1) k j_below (omega arith) below continues (from_before k below later) in
        omega arith
  ]

  pub line_sent : (k : ℕ) → k < length route → IsSent network route k ↔ (k ≡ 0)
  line_sent k below = (sent_first k below, λ first. ap (from_at network route) first)

  pub line_continues : (j k : ℕ) → j < length route → k < length route → Continues network route j k ↔ (k ≡ j + 1)
  line_continues j k j_below below = (
    follows_one j k j_below below,
    λ next. subst (Continues network route j) (sym next) (connected network route line j (omega arith)),
  )

-- a route whose links each continue the one before is a line
pub connected_line : (network : Network) (route : List ℕ) → IsRoute network route
    → AllAdjacentBelow (λ a b. (link_at network a).to ≡ (link_at network b).from) route (length route) → IsLine network route
unfolding nodes_along
connected_line network route is connect = record {
  some_link = is.some_link;
  few_links = is.few_links;
  links_exist = is.links_exist;
  links_connect = connect;
  no_node_twice =
      AllPairs-cons ◌≢◌ (from_at network route 0) (map (λ link. (link_at network link).to) route)
      (λ k d below same.
      let inside : k < length route = subst (λ n. k < n) long below in
      is.none_returns k inside (sym (same ∙ at k d inside)))
      (λ j k d order below same.
      let inside : k < length route = subst (λ n. k < n) long below in
      apart j k order inside (sym (at j d (omega arith)) ∙ same ∙ at k d inside));
}
  where
    long : length (map (λ link. (link_at network link).to) route) ≡ length route
    long = simp length-map

    at : (k d : ℕ) → k < length route → get_or (map (λ link. (link_at network link).to) route) k d ≡ to_at network route k
    at k d below =
        get_or_default (map (λ link. (link_at network link).to) route) k d (link_at network 0).to (subst (λ n. k < n) (sym long) below)
        ∙ get_or-map (λ link. (link_at network link).to) route k 0

    next : (k : ℕ) → k + 1 < length route → Continues network route k (k + 1)
    next k below = connect k 0 below

    apart : (j k : ℕ) → j < k → k < length route → to_at network route j ≡ to_at network route k → ⊥
    apart j k order below same =
        -- the earlier one is continued, so no second one ends where it ends
        is.entered_once j k (j + 1) order below (omega arith) (next j (omega arith)) (sym same ∙ next j (omega arith))

-- ---- its times are sums

module _ (network : Network) (i : ℕ) (line : IsLine network (route_of network i)) where
  route : IsRoute network (route_of network i)
  route = line_route network (route_of network i) line

  pub line_starts : (k : ℕ) → k < hop_count network i → start network i k ≡ line_start network i k
  unfolding line_start
  line_starts zero below = start-sent network i route 0 refl
  line_starts (suc k) below =
      let count : k + 1 ≡ suc k = omega arith in
      start-continues network i route k (suc k) (omega arith) below
      (subst (Continues network (route_of network i) k) (omega arith) (line.links_connect k 0 (omega arith)))
      ∙ ap (λ time. time + hop_delay network i (route_link network i k)) (line_starts k (omega arith))
      ∙ sym (sum_by_more (hop_delay network i) (route_of network i) k 0 (omega arith))
      ∙ ap (λ n. sum_by (hop_delay network i) (take n (route_of network i))) count

  pub line_starts_on : (link : ℕ) → UsesLink network i link → start_on network i link ≡ line_start_on network i link
  unfolding hop_on line_start_on line_start start
  line_starts_on link uses =
      let place = position_or_len (λ hop. hop == link) (route_of network i) in
      let within : place < hop_count network i = within_list (λ hop. hop == link) (route_of network i) uses in
      let is : route_link network i place ≡ link = eqb-true _ _ (passes_at_first (λ hop. hop == link) (route_of network i) 0 within) in
      ap (start_on network i) (sym is) ∙ line_starts place within

  -- each link ends later than the one before
  later : (k m : ℕ) → k ≤ m → m < hop_count network i → hop_arrival network i k ≤ hop_arrival network i m
  unfolding hop_arrival hop_delay
  later k zero order below = let same : k ≡ 0 = omega arith in subst (λ n. hop_arrival network i n ≤ hop_arrival network i 0) (sym same) (omega arith)
  later k (suc m) order below = elim (cases_lt m k) [
    | inl last ↦ let same : k ≡ suc m = omega arith in subst (λ n. hop_arrival network i n ≤ hop_arrival network i (suc m)) (sym same) (omega arith)
    | inr before ↦
        let rest = later k m before (omega arith) in
        let step = start-continues network i route m (suc m) (omega arith) below
        (subst (Continues network (route_of network i) m) (omega arith) (line.links_connect m 0 (omega arith))) in
        omega arith
  ]

  last_arrival : hop_count network i - 1 < hop_count network i
      → hop_arrival network i (hop_count network i - 1)
      ≡ line_start network i (hop_count network i - 1) + spread network i + transfer network i (route_link network i (hop_count network i - 1))
  unfolding hop_arrival
  last_arrival below =
      ap (λ time. time + spread network i + transfer network i (route_link network i (hop_count network i - 1))) (line_starts (hop_count network i - 1) below)

  pub line_arrives : arrival network i ≡ line_arrival network i
  unfolding arrival line_arrival
  line_arrives =
      let some = line.some_link in
      let last = hop_count network i - 1 in
      let low = greatest-le (map (hop_arrival network i) (range_with_len 0 (hop_count network i))) (hop_arrival network i (hop_count network i - 1))
      (All-map-range (λ x. x ≤ hop_arrival network i (hop_count network i - 1)) (hop_arrival network i) (hop_count network i) 0
      (λ k above below. later k (hop_count network i - 1) (omega arith) (omega arith))) in
      let high = le-greatest-range (hop_arrival network i) (hop_count network i) 0 (hop_count network i - 1) (omega arith) (omega arith) in
      let same : greatest (map (hop_arrival network i) (range_with_len 0 (hop_count network i))) ≡ hop_arrival network i (hop_count network i - 1) =
      omega arith in
      same ∙ last_arrival (omega arith)

  pub line_ends : (k : ℕ) → k < hop_count network i → hop_end network i k ≡ line_end network i k
  unfolding hop_end line_end
  line_ends k below = ap (λ time. time + spread network i + separation network i (route_link network i k)) (line_starts k below)

  ends_same : (n : ℕ) → n ≤ hop_count network i
      → greatest (arrival network i ∷ map (hop_end network i) (range_with_len 0 n)) ≡ greatest (line_arrival network i ∷ map (line_end network i) (range_with_len 0 n))
  ends_same zero short = ap (λ x. greatest (x ∷ [])) line_arrives
  ends_same (suc n) short =
      let count : n + 1 ≡ suc n = omega arith in
      ap (λ m. greatest (arrival network i ∷ map (hop_end network i) (range_with_len 0 m))) (sym count)
      ∙ greatest_more (hop_end network i) (arrival network i ∷ []) n
      ∙ ap₂ max (ends_same n (omega arith)) (line_ends n (omega arith))
      ∙ sym (greatest_more (line_end network i) (line_arrival network i ∷ []) n)
      ∙ ap (λ m. greatest (line_arrival network i ∷ map (line_end network i) (range_with_len 0 m))) count

  pub line_spans : span network i ≡ line_span network i
  unfolding span line_span
  line_spans = ends_same (hop_count network i) (omega arith)
