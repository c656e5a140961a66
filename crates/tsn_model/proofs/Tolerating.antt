-- How early frames may be ready on a link, told by the starts that are planned there in one cycle.
use Rattle.std.proofs.Common.{◌≡◌, ℕ, ◌+◌, ◌-◌, ◌*◌, ◌≤◌, ◌<◌, ◌↔◌, List, length, get_or, All, AllPairs, sym, ap, ◌∙◌, subst, arith, inl, inr, nat_lt, lt-ltb, le-ltb}
use Rattle.std.proofs.lemmas.Bool.{cases_lt, cases_order, cond-true, cond-false}
use Rattle.std.proofs.lemmas.List.{get_or_default}
use Rattle.std.proofs.lemmas.List.Elements.{All-contains}
use Rattle.tsn_model.specs.Network.{Network, IsWellFormed, stream_count, route_of, hop_count, route_link, link_at, to_at, Continues}
use Rattle.tsn_model.specs.Timing.{hop_delay, Sends, UsesLink, start_on}
use Rattle.tsn_model.specs.Schedule.{IsValid}
use Rattle.tsn_model.specs.Bridge.{Passage, link_of, IsPassage, planned}
use Rattle.tsn_model.specs.Early.{AreSpacedOn, ToleratesOn}
use Rattle.tsn_model.specs.PlainWords.{Under}
use Rattle.tsn_model.specs.Tolerance.{planned_on, AreStartsOn, distance, AreFar}
use Rattle.tsn_model.proofs.Routes.{use_of, UsesLink-counted, occupancy-pos, window-le-cycle}
use Rattle.tsn_model.proofs.Hops.{cycle_below, hop_uses, hop_start}
use Rattle.tsn_model.proofs.OnTime.{none_tolerated}

-- ---- the least of some numbers

pub under_none : (most : ℕ) (P : ℕ → Type 0) → ((slack : ℕ) → P slack) → Under most most P
under_none most P all slack = (λ less. (less, all slack), λ both. both.0)

-- one number more
pub under_more : (Q : ℕ → ℕ → Type 0) (n least next most : ℕ) → Under least most (λ slack. (m : ℕ) → m < n → Q m slack) → Under next least (Q n)
    → Under next most (λ slack. (m : ℕ) → m < n + 1 → Q m slack)
under_more Q n least next most so_far last slack = (
  λ less.
      let one = (last slack).0 less in
      let others = (so_far slack).0 one.0 in (
        others.0,
        λ m below. elim (cases_lt m n) [
          | inl before ↦ others.1 m before
          | inr at ↦ let is : n ≡ m = omega arith in subst (λ k. Q k slack) is one.1
        ],
      ),
  λ both. (last slack).1 ((so_far slack).1 (both.0, λ m below. both.1 m (omega arith)), both.1 n (omega arith)),
)

pub under_same : (least most : ℕ) (P Q : ℕ → Type 0) → Under least most P → ((slack : ℕ) → P slack ↔ Q slack) → Under least most Q
under_same least most P Q under same slack = (
  λ less. let has = (under slack).0 less in (has.0, (same slack).0 has.1),
  λ both. (under slack).1 (both.0, (same slack).1 both.1),
)

-- ---- instants in order

distance-later : (cycle from to : ℕ) → from < to → distance cycle from to ≡ to - from
unfolding distance
distance-later cycle from to less = cond-true (nat_lt from to) (to - from) (to + cycle - from) (lt-ltb _ _ less)

distance-wrapped : (cycle from to : ℕ) → to ≤ from → distance cycle from to ≡ to + cycle - from
unfolding distance
distance-wrapped cycle from to not_less = cond-false (nat_lt from to) (to - from) (to + cycle - from) (le-ltb _ _ not_less)

-- the slack is less than the time from each of the first so many to the next
abbrev pub AreNeighboursFar : List ℕ → ℕ → ℕ → Type 0
AreNeighboursFar starts count slack = (m : ℕ) → m + 1 < count → slack < get_or starts (m + 1) 0 - get_or starts m 0

-- one neighbour more
pub neighbours_more : (starts : List ℕ) (wrapped least next k : ℕ) → 1 ≤ k
    → ((slack : ℕ) → (slack < least) ↔ ((slack < wrapped) × AreNeighboursFar starts k slack))
    → ((slack : ℕ) → (slack < next) ↔ ((slack < least) × (slack < get_or starts k 0 - get_or starts (k - 1) 0)))
    → (slack : ℕ) → (slack < next) ↔ ((slack < wrapped) × AreNeighboursFar starts (k + 1) slack)
neighbours_more starts wrapped least next k later so_far last slack =
    let back : k - 1 + 1 ≡ k = omega arith in (
      (λ less.
          let one = (last slack).0 less in
          let others = (so_far slack).0 one.0 in (
            others.0,
            λ m below. elim (cases_lt (m + 1) k) [
              | inl before ↦ others.1 m before
              | inr at ↦
                  let is : k ≡ m + 1 = omega arith in
                  let is_before : k - 1 ≡ m = omega arith in
                  subst (λ n. slack < get_or starts n 0 - get_or starts m 0) is (subst (λ n. slack < get_or starts k 0 - get_or starts n 0) is_before one.1)
            ],
          )),
      (λ both.
          let one = both.1 (k - 1) (omega arith) in
          (last slack).1 (
            (so_far slack).1 (both.0, λ m below. both.1 m (omega arith)),
            subst
                (λ n. slack < get_or starts n 0 - get_or starts (k - 1) 0) back one,
          )),
    )

module _ (cycle : ℕ) (starts : List ℕ) (some : 0 < length starts) (in_order : AllPairs ◌<◌ starts) (within : All (λ start. start < cycle) starts) where
  not_after : (j k : ℕ) → j ≤ k → k < length starts → get_or starts j 0 ≤ get_or starts k 0
  not_after j k order below = elim (cases_lt j k) [
    | inl less ↦ let before = in_order j k 0 less below in omega arith
    | inr not_less ↦ let same : get_or starts j 0 ≡ get_or starts k 0 = ap (λ n. get_or starts n 0) (omega arith) in omega arith
  ]

  -- from neighbour to neighbour, and from the last to the first of the next cycle
  pub far_from_neighbours : (slack : ℕ)
      → ((slack < get_or starts 0 0 + cycle - get_or starts (length starts - 1) 0) × AreNeighboursFar starts (length starts) slack) ↔ AreFar cycle starts slack
  far_from_neighbours slack = (
    (λ near j d j_below k e k_below.
        let from = get_or_default starts j d 0 j_below in
        let to = get_or_default starts k e 0 k_below in
        let j_within = within j 0 j_below in
        elim (cases_lt j k) [
          | inl less ↦
              let apart = in_order j k 0 less k_below in
              let next = near.1 j (omega arith) in
              let rest = not_after (j + 1) k (omega arith) k_below in
              let is = distance-later cycle (get_or starts j d) (get_or starts k e) (omega arith) in
              omega arith
          | inr not_less ↦
              let order = not_after k j (omega arith) j_below in
              let least = not_after 0 k (omega arith) k_below in
              let most = not_after j (length starts - 1) (omega arith) (omega arith) in
              let last_within = within (length starts - 1) 0 (omega arith) in
              let is = distance-wrapped cycle (get_or starts j d) (get_or starts k e) (omega arith) in
              omega (arith, near.0)
        ]),
    (λ far.
        let last = far (length starts - 1) 0 (omega arith) 0 0 some in
        let order = not_after 0 (length starts - 1) (omega arith) (omega arith) in
        let is = distance-wrapped cycle (get_or starts (length starts - 1) 0) (get_or starts 0 0) (omega arith) in (
          omega arith,
          λ m below.
              let next = far m 0 (omega arith) (m + 1) 0 below in
              let apart = in_order m (m + 1) 0 (omega arith) below in
              let later = distance-later cycle (get_or starts m 0) (get_or starts (m + 1) 0) apart in
              omega arith,
        )),
  )

-- ---- the hop that the one over the link continues

abbrev pub IsPastDelay : Network → ℕ → ℕ → ℕ → Type 0
IsPastDelay network link i slack = (before k : ℕ) → before < hop_count network i → k < hop_count network i → Continues network (route_of network i) before k
    → route_link network i k ≡ link
    → slack < hop_delay network i (route_link network i before)

pub no_hop : (network : Network) → IsWellFormed network → (i link slack : ℕ) → i < stream_count network → (UsesLink network i link → ⊥)
    → IsPastDelay network link i slack
no_hop network formed i link slack counted unused before k before_within within continues same = absurd (unused
    (subst (UsesLink network i) same (hop_uses network formed i counted k within)))

-- of the hop of that place, if it ends where the link begins
abbrev pub IsPastHop : Network → ℕ → ℕ → ℕ → ℕ → Type 0
IsPastHop network link i before slack = to_at network (route_of network i) before ≡ (link_at network link).from
    → slack < hop_delay network i (route_link network i before)

pub past_all : (network : Network) (i link slack : ℕ) → UsesLink network i link
    → ((before : ℕ) → before < hop_count network i → IsPastHop network link i before slack) ↔ IsPastDelay network link i slack
past_all network i link slack used = (
  (λ each before k before_within within continues same.
      each before before_within (continues ∙ ap (λ l. (link_at network l).from) same)),
  (λ past before before_within ends.
      let at = use_of network i link used in
      past before at.hop before_within at.counted (ends ∙ sym (ap (λ l. (link_at network l).from) at.same_link)) at.same_link),
)

-- ---- what the link tolerates

module _ (network : Network) (formed : IsWellFormed network) (offsets : List ℕ) (valid : IsValid network offsets) (link slack : ℕ) where
  -- a frame's passage over the link in that cycle
  record Passing (i shift cycle : ℕ) : Type 0 where
    passage : Passage
    is : IsPassage network (cycle + 1) passage
    same_link : link_of network passage ≡ link
    at : planned network offsets passage ≡ cycle * network.cycle + planned_on network offsets link i shift

  passing : (i shift cycle : ℕ) → UsesLink network i link → Sends network i shift → Passing i shift cycle
  unfolding link_of planned planned_on
  passing i shift cycle i_uses sent =
      let used = use_of network i link i_uses in
      let same = used.same_start in
      record {
        passage = record { stream = i; shift = shift; cycle = cycle; hop = used.hop };
        is = record { stream = UsesLink-counted network i link i_uses; sent = sent; cycle = omega arith; hop = used.counted };
        same_link = used.same_link;
        at = omega arith;
      }

  -- it is planned within the cycle
  planned_within : (i shift : ℕ) → UsesLink network i link → Sends network i shift → planned_on network offsets link i shift < network.cycle
  unfolding planned_on
  planned_within i shift i_uses sent =
      let ends = window-le-cycle network offsets i shift link valid sent i_uses in
      let some = occupancy-pos network i link formed i_uses in
      omega arith

  to_past : AreSpacedOn network offsets link (λ (passage : Passage). slack) → (i shift : ℕ) → UsesLink network i link → Sends network i shift → (j other : ℕ)
      → UsesLink network j link → Sends network j other
      → slack < distance network.cycle (planned_on network offsets link i shift) (planned_on network offsets link j other)
  to_past spaced i shift i_uses sent j other j_uses other_sent =
      let a = planned_on network offsets link i shift in
      let b = planned_on network offsets link j other in
      let within = planned_within i shift i_uses sent in
      elim (cases_lt (planned_on network offsets link i shift) (planned_on network offsets link j other)) [
        | inl less ↦
            let first = passing i shift 0 i_uses sent in
            let second = passing j other 0 j_uses other_sent in
            let first_at = first.at in
            let second_at = second.at in
            let apart = spaced 1 first.passage second.passage first.is second.is first.same_link second.same_link (omega arith) in
            let is = distance-later network.cycle (planned_on network offsets link i shift) (planned_on network offsets link j other) less in
            omega arith
        | inr not_less ↦
            let first = passing i shift 0 i_uses sent in
            let second = passing j other 1 j_uses other_sent in
            let first_at = first.at in
            let second_at = second.at in
            let first_is : IsPassage network 2 first.passage = record {
              stream = first.is.stream;
              sent = first.is.sent;
              cycle = omega
                  (arith, first.is.cycle);
              hop = first.is.hop;
            } in
            let apart = spaced 2 first.passage second.passage first_is second.is first.same_link second.same_link (omega arith) in
            let is = distance-wrapped network.cycle (planned_on network offsets link i shift) (planned_on network offsets link j other) not_less in
            omega arith
      ]

  -- when a passage over the link is planned
  planned-on : (cycles : ℕ) (p : Passage) → IsPassage network cycles p → link_of network p ≡ link
      → planned network offsets p ≡ p.cycle * network.cycle + planned_on network offsets link p.stream p.shift
  unfolding link_of planned planned_on
  planned-on cycles p passage same_link =
      let at = hop_start network formed p.stream passage.stream p.hop passage.hop in
      let same : start_on network p.stream (route_link network p.stream p.hop) ≡ start_on network p.stream link = ap (start_on network p.stream) same_link in
      omega arith

  uses_link : (cycles : ℕ) (p : Passage) → IsPassage network cycles p → link_of network p ≡ link → UsesLink network p.stream link
  unfolding link_of
  uses_link cycles p passage same_link = subst (UsesLink network p.stream) same_link (hop_uses network formed p.stream passage.stream p.hop passage.hop)

  from_past : ((i shift : ℕ) → UsesLink network i link → Sends network i shift → (j other : ℕ) → UsesLink network j link → Sends network j other
      → slack < distance network.cycle (planned_on network offsets link i shift) (planned_on network offsets link j other))
      → AreSpacedOn network offsets link (λ (passage : Passage). slack)
  from_past past cycles p q p_passage q_passage p_link q_link less =
      let p_uses = uses_link cycles p p_passage p_link in
      let q_uses = uses_link cycles q q_passage q_link in
      let p_at = planned-on cycles p p_passage p_link in
      let q_at = planned-on cycles q q_passage q_link in
      let p_within = planned_within p.stream p.shift p_uses p_passage.sent in
      let q_within = planned_within q.stream q.shift q_uses q_passage.sent in
      let far = past p.stream p.shift p_uses p_passage.sent q.stream q.shift q_uses q_passage.sent in
      elim (cases_order p.cycle q.cycle) [
        | inl same ↦
            let begins : p.cycle * network.cycle ≡ q.cycle * network.cycle = ap (λ c. c * network.cycle) same in
            let is = distance-later network.cycle (planned_on network offsets link p.stream p.shift) (planned_on network offsets link q.stream q.shift)
            (omega arith) in
            omega arith
        | inr differ ↦ elim differ [
          | inl sooner ↦
              let gap = cycle_below p.cycle q.cycle network.cycle sooner in
              elim (cases_lt (planned_on network offsets link p.stream p.shift) (planned_on network offsets link q.stream q.shift)) [
                | inl before ↦ let is = distance-later network.cycle (planned_on network offsets link p.stream p.shift)
                    (planned_on network offsets link q.stream q.shift) before in omega arith
                | inr not_before ↦ let is = distance-wrapped network.cycle (planned_on network offsets link p.stream p.shift)
                    (planned_on network offsets link q.stream q.shift) not_before in omega arith
              ]
          | inr later ↦ let gap = cycle_below q.cycle p.cycle network.cycle later in absurd (omega arith)
        ]
      ]

  -- the link tolerates what is below the times between its starts, and the delays before
  pub tolerates_below : (starts : List ℕ) → AreStartsOn network offsets link starts
      → (AreFar network.cycle starts slack × ((j : ℕ) → j < stream_count network → IsPastDelay network link j slack)) ↔ ToleratesOn network offsets link slack
  tolerates_below starts are = (
    (λ below. record {
      spaced = from_past (λ i shift i_uses sent j other j_uses other_sent.
          All-contains (λ to. slack < distance network.cycle (planned_on network offsets link i shift) to) starts (planned_on network offsets link j other)
          (All-contains (λ from. All (λ to. slack < distance network.cycle from to) starts) starts (planned_on network offsets link i shift) below.0
          (are.all_uses i shift i_uses sent))
          (are.all_uses j other j_uses other_sent));
      after_start = λ j before k counted before_inside inside continues same. below.1 j counted before k before_inside inside continues same;
    }),
    (λ tolerates. (
      (λ j d j_below k e k_below.
          let from = are.used j d j_below in
          let to = are.used k e k_below in
          subst (λ t. slack < distance network.cycle t (get_or starts k e)) (sym from.4)
          (subst (λ t. slack < distance network.cycle (planned_on network offsets link from.0 from.1) t) (sym to.4)
          (to_past tolerates.spaced from.0 from.1 from.2 from.3 to.0 to.1 to.2 to.3))),
      (λ j counted before k before_inside inside continues same. tolerates.after_start j before k counted before_inside inside continues same),
    )),
  )

  -- starts are within the cycle
  pub starts_within : (starts : List ℕ) → AreStartsOn network offsets link starts → All (λ start. start < network.cycle) starts
  starts_within starts are k d below =
      let start = are.used k d below in
      let inside = planned_within start.0 start.1 start.2 start.3 in
      omega (arith, start.4)

-- so it tolerates what is below the least of these
module _ (network : Network) (formed : IsWellFormed network) (offsets : List ℕ) (valid : IsValid network offsets) (link gap least : ℕ) (starts : List ℕ)
    (are : AreStartsOn network offsets link starts)
    (gaps : (slack : ℕ) → (slack < gap) ↔ AreFar network.cycle starts slack) (delays : Under least gap
    (λ slack. (j : ℕ) → j < stream_count network → IsPastDelay network link j slack)) where
  pub tolerates_least : (slack : ℕ) → ToleratesOn network offsets link slack ↔ (slack < least)
  tolerates_least slack = (
    (λ tolerates.
        let below = (tolerates_below network formed offsets valid link slack starts are).1 tolerates in
        (delays slack).1 ((gaps slack).1 below.0, below.1)),
    (λ less.
        let by_delay = (delays slack).0 less in
        (tolerates_below network formed offsets valid link slack starts are).0 ((gaps slack).0 by_delay.0, by_delay.1)),
  )

  -- which isn't 0, since no slack is tolerated
  pub least_some : 0 < least
  least_some = (tolerates_least 0).0 (none_tolerated network formed offsets link)
