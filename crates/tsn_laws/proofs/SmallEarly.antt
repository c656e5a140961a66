-- The small network where frames may be ready early on the link to C.
use Rattle.std.proofs.Common.{◌≡◌, ℕ, zero, suc, ◌+◌, ◌*◌, ◌≤◌, ◌<◌, ◌⊎◌, List, [], ◌∷◌, get_or, All, AllPairs, Any, Contains, refl, sym, ap, ◌∙◌, subst, arith, inl, inr}
use Rattle.std.proofs.lemmas.Bool.{cases_lt}
use Rattle.std.proofs.lemmas.List.Elements.{All-nil, All-cons}
use Rattle.tsn_model.specs.Network.{stream_count, stream_at, octets_of, turns_of, burst_of, route_of, hop_count, route_link, link_at, Continues}
use Rattle.tsn_model.specs.Timing.{occupancy, transfer, hop_delay, ready_after, start, Sends, UsesLink, hop_on, start_on}
use Rattle.tsn_model.specs.Bridge.{LinkGates, HasWantedGates, Passage, ScheduledStart, BackgroundStart, BridgeRun, WireUse, link_of, length_of, scheduled_use, wire_uses, AreDisjoint, IsPassage, StartedAt, NotStartedBefore, IsReady, FitsAt, ScheduledOpen, planned, StartsOnTime}
use Rattle.tsn_model.specs.Early.{IsDelayed, IsEarlyRun, ToleratesOn}
use Rattle.tsn_model.specs.Examples.{small_network, small_offsets}
use Rattle.tsn_model.specs.Tolerance.{planned_on, AreStartsOn}
use Rattle.tsn_model.specs.EarlyExamples.{sent_on, ready_from, SmallEarly}
use Rattle.tsn_model.proofs.Lists.{Contains-cons_cases, Contains-nil, Contains-head, Contains-more}
use Rattle.tsn_model.proofs.Shifts.{first_sent, single_shift}
use Rattle.tsn_model.proofs.Routes.{UsesLink-counted}
use Rattle.tsn_laws.proofs.Small.{small_formed, small_valid, both_streams, all_two, pairs_two}
use Rattle.tsn_model.proofs.EarlyRuns.{fits_planned}
use Rattle.tsn_model.proofs.OnTime.{wanted_kept, short_tolerated}

-- ---- the passages of one cycle

abbrev pub passage : ℕ → ℕ → Passage
passage stream hop = record { stream = stream; shift = 0; cycle = 0; hop = hop }

one_shift : (i shift : ℕ) → turns_of small_network i ≡ 1 → burst_of small_network i ≡ 1 → Sends small_network i shift → shift ≡ 0
one_shift i shift turn frame sent = grind (arith, Contains-cons_cases, single_shift, Contains-nil)

-- each stream sends one frame, at its offset
at_offset : (stream shift : ℕ) → stream < stream_count small_network → Sends small_network stream shift → shift ≡ 0
unfolding small_network stream_at turns_of burst_of
at_offset zero shift counted sent = one_shift 0 shift refl refl sent
at_offset (suc zero) shift counted sent = one_shift 1 shift refl refl sent
at_offset (suc (suc stream)) shift counted sent = absurd (omega arith)

pub each_passage : (P : Passage → Type 0) → P (passage 0 0) → P (passage 1 0) → P (passage 0 1) → P (passage 1 1) → (p : Passage) → IsPassage small_network 1 p
    → P p
unfolding small_network stream_at route_of
each_passage P a b c d p is =
    subst (λ s. P (record { stream = p.stream; shift = s; cycle = p.cycle; hop = p.hop })) (sym (at_offset p.stream p.shift is.stream is.sent))
    (at p.stream p.cycle p.hop is.stream is.cycle is.hop)
  where
    at : (stream cycle hop : ℕ) → stream < stream_count small_network → cycle < 1 → hop < hop_count small_network stream
        → P (record { stream = stream; shift = 0; cycle = cycle; hop = hop })
    at zero zero zero counted below hops = a
    at zero zero (suc zero) counted below hops = c
    at zero zero (suc (suc hop)) counted below hops = absurd (omega arith)
    at (suc zero) zero zero counted below hops = b
    at (suc zero) zero (suc zero) counted below hops = d
    at (suc zero) zero (suc (suc hop)) counted below hops = absurd (omega arith)
    at (suc (suc stream)) zero hop counted below hops = absurd (omega arith)
    at stream (suc cycle) hop counted below hops = absurd (omega arith)

pub is_passage : (stream hop : ℕ) → stream < 2 → hop < 2 → IsPassage small_network 1 (passage stream hop)
unfolding small_network stream_at route_of
is_passage zero hop counted below = record {
  stream = omega arith;
  sent = first_sent small_network 0 small_formed
      (omega arith);
  cycle = omega arith;
  hop = below;
}
is_passage (suc zero) hop counted below = record {
  stream = omega arith;
  sent = first_sent small_network 1 small_formed
      (omega arith);
  cycle = omega arith;
  hop = below;
}
is_passage (suc (suc stream)) hop counted below = absurd (omega arith)

-- ---- what the link to C tolerates

occupies : (i : ℕ) → i < stream_count small_network → occupancy small_network i 4 ≡ 672
unfolding small_network stream_at octets_of link_at occupancy
occupies i below = both_streams (λ k. occupancy small_network k 4 ≡ 672) refl refl i below

-- each stream has two links: the one begins at the talker, and the other one continues it
pub follow : (i before k : ℕ) → i < 2 → before < 2 → k < 2 → Continues small_network (route_of small_network i) before k → (before ≡ 0) × (k ≡ 1)
unfolding small_network stream_at route_of link_at
follow zero zero zero counted a b same = absurd (omega arith)
follow zero zero (suc zero) counted a b same = (refl, refl)
follow zero (suc zero) zero counted a b same = absurd (omega arith)
follow zero (suc zero) (suc zero) counted a b same = absurd (omega arith)
follow (suc zero) zero zero counted a b same = absurd (omega arith)
follow (suc zero) zero (suc zero) counted a b same = (refl, refl)
follow (suc zero) (suc zero) zero counted a b same = absurd (omega arith)
follow (suc zero) (suc zero) (suc zero) counted a b same = absurd (omega arith)
follow (suc (suc i)) before k counted a b same = absurd (omega arith)
follow i (suc (suc before)) k counted a b same = absurd (omega arith)
follow i before (suc (suc k)) counted a b same = absurd (omega arith)

pub two_hops : (i : ℕ) → i < stream_count small_network → (i < 2) × (hop_count small_network i ≡ 2)
unfolding small_network stream_at route_of
two_hops zero counted = (omega arith, refl)
two_hops (suc zero) counted = (omega arith, refl)
two_hops (suc (suc i)) counted = absurd (omega arith)

pub delay_first : (i : ℕ) → i < 2 → hop_delay small_network i (route_link small_network i 0) ≡ 1626
unfolding small_network stream_at octets_of route_of link_at transfer hop_delay
delay_first zero counted = refl
delay_first (suc zero) counted = refl
delay_first (suc (suc i)) counted = absurd (omega arith)

pub delays : (i before k : ℕ) → i < stream_count small_network → before < hop_count small_network i → k < hop_count small_network i
    → Continues small_network (route_of small_network i) before k → hop_delay small_network i (route_link small_network i before) ≡ 1626
delays i before k counted before_within within continues =
    let two = two_hops i counted in
    let is = follow i before k two.0 (omega (arith, two.1)) (omega (arith, two.1)) continues in
    ap (λ h. hop_delay small_network i (route_link small_network i h)) is.0 ∙ delay_first i two.0

pub first_planned : planned small_network small_offsets (passage 0 1) ≡ 1626
unfolding small_network small_offsets stream_at octets_of route_of link_at transfer hop_delay ready_after start_on start planned
first_planned = refl

pub second_planned : planned small_network small_offsets (passage 1 1) ≡ 2298
unfolding small_network small_offsets stream_at octets_of route_of link_at transfer hop_delay ready_after start_on start planned
second_planned = refl

pub on_link : (stream : ℕ) → stream < 2 → link_of small_network (passage stream 1) ≡ 4
unfolding small_network stream_at route_of link_of
on_link zero below = refl
on_link (suc zero) below = refl
on_link (suc (suc stream)) below = absurd (omega arith)

most : (slack : ℕ) → ToleratesOn small_network small_offsets 4 slack → slack ≤ 671
most slack tolerates =
    let first = first_planned in
    let second = second_planned in
    let apart = tolerates.spaced 1 (passage 0 1) (passage 1 1) (is_passage 0 1 (omega arith) (omega arith)) (is_passage 1 1 (omega arith) (omega arith))
    (on_link 0 (omega arith)) (on_link 1 (omega arith)) (omega arith) in
    omega arith

tolerated : (slack : ℕ) → slack ≤ 671 → ToleratesOn small_network small_offsets 4 slack
tolerated slack few =
    short_tolerated small_network small_formed small_offsets small_valid 4 slack
    (λ i used. let long = occupies i (UsesLink-counted small_network i 4 used) in omega arith)
    (λ i before k counted before_within within continues link. let delay = delays i before k counted before_within within continues in omega arith)

planned-small : (i shift : ℕ) → i < stream_count small_network → Sends small_network i shift → planned_on small_network small_offsets 4 i shift ≡ 1626 + i * 672
unfolding small_network small_offsets stream_at octets_of route_of link_at transfer hop_delay ready_after start_on planned_on
planned-small zero shift counted sent = let none = at_offset 0 shift counted sent in omega arith
planned-small (suc zero) shift counted sent = let none = at_offset 1 shift counted sent in omega arith
planned-small (suc (suc i)) shift counted sent = absurd (omega arith)

uses_link : (i : ℕ) → i < stream_count small_network → UsesLink small_network i 4
unfolding small_network stream_at route_of hop_on
uses_link i below = both_streams (λ k. UsesLink small_network k 4) refl refl i below

listed : (i : ℕ) → i < stream_count small_network → Contains (1626 ∷ 2298 ∷ []) (1626 + i * 672)
unfolding small_network
listed i below = both_streams (λ k. Contains (1626 ∷ 2298 ∷ []) (1626 + k * 672)) (Contains-head 1626 (2298 ∷ []))
    (Contains-more 1626 (2298 ∷ []) 2298 (Contains-head 2298 [])) i below

small_starts : AreStartsOn small_network small_offsets 4 (1626 ∷ 2298 ∷ [])
small_starts = record {
  in_order = pairs_two ◌<◌ 1626 2298 (omega arith);
  used = all_two (λ start. (i : ℕ) × (shift : ℕ) × UsesLink small_network i 4 × Sends small_network i shift ×
      (start ≡ planned_on small_network small_offsets 4 i shift)) 1626 2298
      (0, 0, uses_link 0 two, first_sent small_network 0 small_formed two, sym (planned-small 0 0 two (first_sent small_network 0 small_formed two)))
      (1, 0, uses_link 1 one, first_sent small_network 1 small_formed one, sym (planned-small 1 0 one (first_sent small_network 1 small_formed one)));
  all_uses = λ i shift i_uses sent. subst (Contains (1626 ∷ 2298 ∷ [])) (sym (planned-small i shift (UsesLink-counted small_network i 4 i_uses) sent))
      (listed i (UsesLink-counted small_network i 4 i_uses));
}
  where
    two : 0 < stream_count small_network
    two = (is_passage 0 1 (omega arith) (omega arith)).stream

    one : 1 < stream_count small_network
    one = (is_passage 1 1 (omega arith) (omega arith)).stream

-- ---- runs in which the second frame is ready early

abbrev pub use_on : ℕ → ℕ → WireUse
use_on link from = record { link = link; from = from; until = from + 672 }

all_four : {X : Type 0} (P : X → Type 0) (a b c d : X) → P a → P b → P c → P d → All P (a ∷ b ∷ c ∷ d ∷ [])
all_four P a b c d first second third fourth = All-cons P a (b ∷ c ∷ d ∷ []) first (All-cons P b (c ∷ d ∷ []) second (all_two P c d third fourth))

pub cycle_is : 1 * small_network.cycle ≡ 1000000
unfolding small_network
cycle_is = refl

pub length_is : (stream hop : ℕ) → stream < 2 → hop < 2 → length_of small_network (passage stream hop) ≡ 672
unfolding small_network stream_at octets_of route_of link_at occupancy link_of length_of
length_is zero zero counted below = refl
length_is zero (suc zero) counted below = refl
length_is (suc zero) zero counted below = refl
length_is (suc zero) (suc zero) counted below = refl
length_is stream (suc (suc hop)) counted below = absurd (omega arith)
length_is (suc (suc stream)) hop counted below = absurd (omega arith)

module _ (first second : ℕ) where
  abbrev run : BridgeRun
  run = sent_on first second

  abbrev at_hop : ℕ → ℕ → ℕ
  at_hop zero zero = 0
  at_hop (suc stream) zero = 672
  at_hop zero (suc hop) = first
  at_hop (suc stream) (suc hop) = second

  began : (p : Passage) (t : ℕ) → StartedAt run p t → t ≡ at_hop p.stream p.hop
  unfolding sent_on
  began p t (zero, below, is) = sym (ap (λ (s : ScheduledStart). s.time) is) ∙ ap (λ (s : ScheduledStart). at_hop s.passage.stream s.passage.hop) is
  began p t (suc zero, below, is) = sym (ap (λ (s : ScheduledStart). s.time) is) ∙ ap (λ (s : ScheduledStart). at_hop s.passage.stream s.passage.hop) is
  began p t (suc (suc zero), below, is) = sym (ap (λ (s : ScheduledStart). s.time) is) ∙ ap (λ (s : ScheduledStart). at_hop s.passage.stream s.passage.hop) is
  began p t (suc (suc (suc zero)), below, is) = sym (ap (λ (s : ScheduledStart). s.time) is) ∙ ap
      (λ (s : ScheduledStart). at_hop s.passage.stream s.passage.hop) is
  began p t (suc (suc (suc (suc k))), below, is) = absurd (omega arith)

  starts : (stream hop : ℕ) → stream < 2 → hop < 2 → StartedAt run (passage stream hop) (at_hop stream hop)
  unfolding sent_on
  starts zero zero counted below = (0, omega arith, refl)
  starts (suc zero) zero counted below = (1, omega arith, refl)
  starts zero (suc zero) counted below = (2, omega arith, refl)
  starts (suc zero) (suc zero) counted below = (3, omega arith, refl)
  starts stream (suc (suc hop)) counted below = absurd (omega arith)
  starts (suc (suc stream)) hop counted below = absurd (omega arith)

  no_start : (stream hop t : ℕ) → StartedAt run (passage stream (suc (suc hop))) t → ⊥
  unfolding sent_on
  no_start stream hop t (zero, below, is) = let at = ap (λ (s : ScheduledStart). s.passage.hop) is in omega arith
  no_start stream hop t (suc zero, below, is) = let at = ap (λ (s : ScheduledStart). s.passage.hop) is in omega arith
  no_start stream hop t (suc (suc zero), below, is) = let at = ap (λ (s : ScheduledStart). s.passage.hop) is in omega arith
  no_start stream hop t (suc (suc (suc zero)), below, is) = let at = ap (λ (s : ScheduledStart). s.passage.hop) is in omega arith
  no_start stream hop t (suc (suc (suc (suc k))), below, is) = absurd (omega arith)

  each_start : (P : ScheduledStart → Type 0)
      → ((stream hop : ℕ) → stream < 2 → hop < 2 → P (record { passage = passage stream hop; time = at_hop stream hop })) → All P run.scheduled
  unfolding sent_on
  each_start P each = all_four P _ _ _ _ (each 0 0 (omega arith) (omega arith)) (each 1 0 (omega arith) (omega arith)) (each 0 1 (omega arith) (omega arith))
      (each 1 1 (omega arith) (omega arith))

  uses : wire_uses small_network run ≡ use_on 0 0 ∷ use_on 2 672 ∷ use_on 4 first ∷ use_on 4 second ∷ []
  unfolding sent_on small_network stream_at octets_of route_of link_at occupancy link_of length_of scheduled_use wire_uses
  uses = refl

  each_use : (P : WireUse → Type 0) → P (use_on 0 0) → P (use_on 2 672) → P (use_on 4 first) → P (use_on 4 second) → All P (wire_uses small_network run)
  each_use P a b c d = subst (All P) (sym uses) (all_four P (use_on 0 0) (use_on 2 672) (use_on 4 first) (use_on 4 second) a b c d)

  -- the instants at which they are due
  abbrev due_at : ℕ → ℕ → ℕ
  due_at zero zero = 0
  due_at (suc stream) zero = 672
  due_at zero (suc hop) = 1626
  due_at (suc stream) (suc hop) = 2298

  due_is : (stream hop t : ℕ) → stream < 2 → hop < 2 → IsReady small_network small_offsets run (passage stream hop) t → t ≡ due_at stream hop
  unfolding small_network small_offsets stream_at octets_of route_of link_at transfer hop_delay
  due_is zero zero t counted below (inl (sent, at)) = at
  due_is (suc zero) zero t counted below (inl (sent, at)) = at
  due_is zero (suc zero) t counted below (inl (sent, at)) = absurd (omega arith)
  due_is (suc zero) (suc zero) t counted below (inl (sent, at)) = absurd (omega arith)
  due_is zero (suc zero) t counted below (inr (zero, s, continues, at, after)) = let start = began (passage 0 0) s at in after ∙ ap (λ n. n + 1626) start
  due_is (suc zero) (suc zero) t counted below (inr (zero, s, continues, at, after)) = let start = began (passage 1 0) s at in after ∙ ap (λ n. n + 1626) start
  due_is stream hop t counted below (inr (suc (suc before), s, continues, at, after)) = absurd (no_start stream before s at)
  due_is zero zero t counted below (inr (zero, s, continues, at, after)) = absurd (omega arith)
  due_is zero zero t counted below (inr (suc zero, s, continues, at, after)) = absurd (omega arith)
  due_is zero (suc zero) t counted below (inr (suc zero, s, continues, at, after)) = absurd (omega arith)
  due_is (suc zero) zero t counted below (inr (zero, s, continues, at, after)) = absurd (omega arith)
  due_is (suc zero) zero t counted below (inr (suc zero, s, continues, at, after)) = absurd (omega arith)
  due_is (suc zero) (suc zero) t counted below (inr (suc zero, s, continues, at, after)) = absurd (omega arith)
  due_is stream (suc (suc hop)) t counted below is_ready = absurd (omega arith)
  due_is (suc (suc stream)) hop t counted below is_ready = absurd (omega arith)

  is_due : (stream hop : ℕ) → stream < 2 → hop < 2 → IsReady small_network small_offsets run (passage stream hop) (due_at stream hop)
  unfolding small_network small_offsets stream_at octets_of route_of link_at transfer hop_delay
  is_due zero zero counted below = inl (refl, refl)
  is_due (suc zero) zero counted below = inl (refl, refl)
  is_due zero (suc zero) counted below = inr (0, 0, refl, starts 0 0 (omega arith) (omega arith), refl)
  is_due (suc zero) (suc zero) counted below = inr (0, 672, refl, starts 1 0 (omega arith) (omega arith), refl)
  is_due stream (suc (suc hop)) counted below = absurd (omega arith)
  is_due (suc (suc stream)) hop counted below = absurd (omega arith)

  -- the second frame's instant of readiness, and the gates
  module _ (ready : ℕ) (slack : ℕ) (apart : (first + 672 ≤ second) ⊎ (second + 672 ≤ first))
      (in_time : (1626 ≤ first) × (ready ≤ second) × (first < 1000000) × (second < 1000000))
      (near : (ready ≤ 2298) × (2298 ≤ ready + slack)) (gates : List LinkGates) (fits : (stream hop : ℕ) → stream < 2 → hop < 2 → FitsAt small_network gates
      (passage stream hop) (at_hop stream hop))
      (first_waits : (t : ℕ) → 1626 ≤ t → t < first → IsDelayed small_network small_offsets gates 1 (ready_from ready) run (passage 0 1) t)
      (second_waits : (t : ℕ) → ready ≤ t → t < second → IsDelayed small_network small_offsets gates 1 (ready_from ready) run (passage 1 1) t) where
    ready_is : (stream hop : ℕ) → stream < 2 → hop < 2
        → (ready_from ready (passage stream hop) ≤ due_at stream hop) × (due_at stream hop ≤ ready_from ready (passage stream hop) + slack) × (ready_from ready (passage stream hop) ≤ at_hop stream hop)
    unfolding ready_from small_offsets
    ready_is zero zero counted below = (omega arith, omega arith, omega arith)
    ready_is (suc zero) zero counted below = (omega arith, omega arith, omega arith)
    ready_is zero (suc zero) counted below = (omega arith, omega arith, omega (arith, in_time.0))
    ready_is (suc zero) (suc zero) counted below = (omega (arith, near.0), omega (arith, near.1), omega (arith, in_time.1))
    ready_is stream (suc (suc hop)) counted below = absurd (omega arith)
    ready_is (suc (suc stream)) hop counted below = absurd (omega arith)

    disjoint : AllPairs AreDisjoint (use_on 0 0 ∷ use_on 2 672 ∷ use_on 4 first ∷ use_on 4 second ∷ [])
    disjoint zero zero d order below = absurd (omega arith)
    disjoint zero (suc zero) d order below = λ same t a_from a_until b_from b_until. omega arith
    disjoint zero (suc (suc zero)) d order below = λ same t a_from a_until b_from b_until. omega arith
    disjoint zero (suc (suc (suc zero))) d order below = λ same t a_from a_until b_from b_until. omega arith
    disjoint (suc zero) zero d order below = absurd (omega arith)
    disjoint (suc zero) (suc zero) d order below = absurd (omega arith)
    disjoint (suc zero) (suc (suc zero)) d order below = λ same t a_from a_until b_from b_until. omega arith
    disjoint (suc zero) (suc (suc (suc zero))) d order below = λ same t a_from a_until b_from b_until. omega arith
    disjoint (suc (suc zero)) (suc
        (suc (suc zero))) d order below = λ same t a_from a_until b_from b_until. elim apart [ inl before ↦ omega arith | inr after ↦ omega arith ]
    disjoint i j d order below = absurd (omega arith)

    waits : (p : Passage) → IsPassage small_network 1 p → (due t : ℕ) → IsReady small_network small_offsets run p due → ready_from ready p ≤ t
        → NotStartedBefore run p (t + 1)
        → IsDelayed small_network small_offsets gates 1 (ready_from ready) run p t
    unfolding ready_from small_offsets
    waits = each_passage (λ p. (due t : ℕ) → IsReady small_network small_offsets run p due → ready_from ready p ≤ t → NotStartedBefore run p (t + 1)
        → IsDelayed small_network small_offsets gates 1 (ready_from ready) run p t)
        (λ due t is_ready since unstarted. let late = unstarted 0 (starts 0 0 (omega arith) (omega arith)) in absurd (omega arith))
        (λ due t is_ready since unstarted. let late = unstarted 672 (starts 1 0 (omega arith) (omega arith)) in absurd (omega arith))
        (λ due t is_ready since unstarted. let late = unstarted first (starts 0 1 (omega arith) (omega arith)) in first_waits t since (omega arith))
        (λ due t is_ready since unstarted. let late = unstarted second (starts 1 1 (omega arith) (omega arith)) in second_waits t since (omega arith))

    as_due : (stream hop due : ℕ) → stream < 2 → hop < 2 → IsReady small_network small_offsets run (passage stream hop) due
        → (ready_from ready (passage stream hop) ≤ due) × (due ≤ ready_from ready (passage stream hop) + slack)
    as_due stream hop due counted below is_ready =
        let same = due_is stream hop due counted below is_ready in
        let bounds = ready_is stream hop counted below in
        (omega (arith, bounds.0), omega (arith, bounds.1))

    early_by : (p : Passage) → IsPassage small_network 1 p → (due : ℕ) → IsReady small_network small_offsets run p due
        → (ready_from ready p ≤ due) × (due ≤ ready_from ready p + slack)
    early_by = each_passage (λ p. (due : ℕ) → IsReady small_network small_offsets run p due → (ready_from ready p ≤ due) × (due ≤ ready_from ready p + slack))
        (λ due is_ready. as_due 0 0 due (omega arith) (omega arith) is_ready)
        (λ due is_ready. as_due 1 0 due (omega arith) (omega arith) is_ready)
        (λ due is_ready. as_due 0 1 due (omega arith) (omega arith) is_ready)
        (λ due is_ready. as_due 1 1 due (omega arith) (omega arith) is_ready)

    early_run : IsEarlyRun small_network small_offsets gates 1 (λ link. slack) (ready_from ready) run
    unfolding sent_on
    early_run = record {
      wires_shared = subst (AllPairs AreDisjoint) (sym uses) disjoint;
      uses_begin =
          let end = cycle_is in
          each_use (λ (wire : WireUse). wire.from < 1 * small_network.cycle) (omega arith) (omega arith) (omega (arith, in_time.2)) (omega (arith, in_time.3));
      background_length = All-nil (λ (begun : BackgroundStart). begun.octets ≤ 1522);
      background_open = λ k d below. absurd (omega arith);
      passages = each_start (λ (begun : ScheduledStart). IsPassage small_network 1 begun.passage) is_passage;
      silent = λ k d below failed. Contains-nil _ failed;
      once = λ p s t one other. began p s one ∙ sym (began p t other);
      early = λ p due is is_ready. early_by p is due is_ready;
      begun_ready = each_start (λ (begun : ScheduledStart). (due : ℕ) × IsReady small_network small_offsets run begun.passage due ×
          (ready_from ready begun.passage ≤ begun.time))
          (λ stream hop counted below. (due_at stream hop, is_due stream hop counted below, (ready_is stream hop counted below).2));
      fits = each_start (λ (begun : ScheduledStart). FitsAt small_network gates begun.passage begun.time) fits;
      waits = λ p due t is whole is_ready since below unstarted. waits p is due t is_ready since unstarted;
    }

-- ---- the second frame waits for its turn, or goes first

module _ (gates : List LinkGates) (has : HasWantedGates small_network small_offsets gates) where
  pub fits_first : (stream hop : ℕ) → stream < 2 → hop < 2
      → FitsAt small_network gates (passage stream hop) (planned small_network small_offsets (passage stream hop))
  fits_first stream hop counted below = fits_planned small_network small_formed small_offsets small_valid 1 gates
      (wanted_kept small_network small_offsets gates has) (passage stream hop) (is_passage stream hop counted below)

  -- both frames are as long, so the one fits into the other's window
  in_window : (stream other at : ℕ) → stream < 2 → other < 2 → planned small_network small_offsets (passage other 1) ≡ at
      → FitsAt small_network gates (passage stream 1) at
  in_window stream other at counted below is u begun ends =
      let long = length_is stream 1 counted (omega arith) in
      let as_long = length_is other 1 below (omega arith) in
      let same : link_of small_network (passage other 1) ≡ link_of small_network (passage stream 1) = on_link other below ∙ sym (on_link stream counted) in
      let window = fits_first other 1 below (omega arith) u (omega arith) (omega arith) in
      subst (λ l. ScheduledOpen gates l u) same window

  sent_first : planned small_network small_offsets (passage 0 0) ≡ 0
  unfolding small_network small_offsets stream_at octets_of route_of link_at transfer hop_delay ready_after start_on start planned
  sent_first = refl

  pub sent_second : planned small_network small_offsets (passage 1 0) ≡ 672
  unfolding small_network small_offsets stream_at octets_of route_of link_at transfer hop_delay ready_after start_on start planned
  sent_second = refl

  all_fit : (first second : ℕ) → FitsAt small_network gates (passage 0 1) first → FitsAt small_network gates (passage 1 1) second
      → (stream hop : ℕ) → stream < 2 → hop < 2 → FitsAt small_network gates (passage stream hop) (at_hop first second stream hop)
  all_fit first second a b zero zero counted below = subst (FitsAt small_network gates (passage 0 0)) sent_first (fits_first 0 0 counted below)
  all_fit first second a b (suc zero) zero counted below = subst (FitsAt small_network gates (passage 1 0)) sent_second (fits_first 1 0 counted below)
  all_fit first second a b zero (suc zero) counted below = a
  all_fit first second a b (suc zero) (suc zero) counted below = b
  all_fit first second a b stream (suc (suc hop)) counted below = absurd (omega arith)
  all_fit first second a b (suc (suc stream)) hop counted below = absurd (omega arith)

  -- the other frame has the wire
  has_wire : (first second k stream from t : ℕ) → (ready : Passage → ℕ) → stream < 2 → k < 4
      → get_or (use_on 0 0 ∷ use_on 2 672 ∷ use_on 4 first ∷ use_on 4 second ∷ []) k (use_on 4 from) ≡ use_on 4 from
      → from < t → t < from + 672 → IsDelayed small_network small_offsets gates 1 ready (sent_on first second) (passage stream 1) t
  has_wire first second k stream from t ready counted below is since until = inr (inl
      (subst (Any (λ (wire : WireUse). (wire.link ≡ link_of small_network (passage stream 1)) × (wire.from < t) × (t < wire.until))) (sym (uses first second))
      (k, use_on 4 from, below, is, (sym (on_link stream counted), since, until))))

  in_turn : IsEarlyRun small_network small_offsets gates 1 (λ link. 671) (ready_from 1627) (sent_on 1626 2298)
  in_turn = early_run 1626 2298 1627 671 (inl (omega arith)) (omega arith, omega arith, omega arith, omega arith) (omega arith, omega arith) gates
      (all_fit 1626 2298 (in_window 0 0 1626 (omega arith) (omega arith) first_planned) (in_window 1 1 2298 (omega arith) (omega arith) second_planned))
      (λ t since before. absurd (omega arith))
      (λ t since before. has_wire 1626 2298 2 1 1626 t (ready_from 1627) (omega arith) (omega arith) refl (omega arith) (omega arith))

  -- at 1626 the second frame is ready with the first one, and hasn't started before
  other_ready : IsDelayed small_network small_offsets gates 1 (ready_from 1626) (sent_on 2298 1626) (passage 0 1) 1626
  unfolding ready_from
  other_ready = inr (inr (
    passage 1 1,
    2298,
    is_passage 1 1 (omega arith) (omega arith),
    (λ same. let one : 1 ≡ 0 = ap (λ (p : Passage). p.stream) same in omega arith),
    on_link 1 (omega arith) ∙ sym (on_link 0 (omega arith)),
    is_due 2298 1626 1 1 (omega arith) (omega arith),
    omega arith,
    (λ s at. let same = began 2298 1626 (passage 1 1) s at in omega arith),
  ))

  swapped : IsEarlyRun small_network small_offsets gates 1 (λ link. 672) (ready_from 1626) (sent_on 2298 1626)
  swapped = early_run 2298 1626 1626 672 (inr (omega arith)) (omega arith, omega arith, omega arith, omega arith) (omega arith, omega arith) gates
      (all_fit 2298 1626 (in_window 0 1 2298 (omega arith) (omega arith) second_planned) (in_window 1 0 1626 (omega arith) (omega arith) first_planned))
      (λ t since before. elim (cases_lt 1626 t) [
        | inl past ↦ has_wire 2298 1626 3 0 1626 t (ready_from 1626) (omega arith) (omega arith) refl (omega arith) (omega arith)
        | inr not_past ↦
            let at : 1626 ≡ t = omega arith in
            subst (IsDelayed small_network small_offsets gates 1 (ready_from 1626) (sent_on 2298 1626) (passage 0 1)) at other_ready
      ])
      (λ t since before. absurd (omega arith))

late : StartsOnTime small_network small_offsets 1 (sent_on 2298 1626) → ⊥
late on_time =
    let first = first_planned in
    let same = began 2298 1626 (passage 0 1) _ (on_time (passage 0 1) (is_passage 0 1 (omega arith) (omega arith))) in
    omega arith

pub small_early : SmallEarly
small_early = record { starts = small_starts; greatest = λ slack. (most slack, tolerated slack); in_turn = in_turn; swapped = swapped; late = late }
