-- The replay of the small network.
use Rattle.std.proofs.Common.{◌≡◌, ◌≢◌, ℕ, zero, suc, ◌+◌, ◌*◌, ◌≤◌, ◌<◌, ◌⊎◌, List, [], ◌∷◌, All, AllPairs, Any, IsBitSet, bit_and, refl, sym, ap, ◌∙◌, subst, arith, inl, inr, suc-ne-zero}
use Rattle.std.proofs.lemmas.Bool.{cases_lt}
use Rattle.std.proofs.lemmas.List.Elements.{All-nil, All-cons}
use Rattle.tsn_model.specs.Network.{stream_at, octets_of, route_of, link_at}
use Rattle.tsn_model.specs.Timing.{occupancy, transfer, hop_delay}
use Rattle.tsn_model.specs.Gates.{cycle_of, IsOctetAt}
use Rattle.tsn_model.specs.Bridge.{BackgroundOpen, GatesAt, Passage, ScheduledStart, BackgroundStart, BridgeRun, WireUse, link_of, length_of, scheduled_use, background_use, wire_uses, AreDisjoint, IsPassage, StartedAt, NotStartedBefore, IsReady, FitsAt, IsQueuedBefore, IsBlocked, IsBridgeRun, BackgroundFrame, frame_at, IsBefore, FrameStartedBefore, IsTaken, IsHeld, IsFedByList}
use Rattle.tsn_model.specs.Examples.{small_network}
use Rattle.tsn_laws.proofs.SmallEarly.{follow, passage, each_passage, is_passage}
use Rattle.tsn_replay.specs.ReplayExamples.{open_entries, open_gates, at_once, small_starts, run_of, run_with_twice, sent_at, SmallRun, SmallBackground}

-- ---- gates that are always open

octet_open : (t : ℕ) → IsOctetAt open_entries t 255
unfolding open_entries cycle_of
octet_open t = record { before = []; after = []; entry = record { interval = 1000000; octet = 255 }; split = refl; begun = omega arith; not_ended = omega arith; octet_is = refl }

is_open : (link t : ℕ) (P : ℕ → Type 0) → (link ≡ 0) ⊎ ((link ≡ 2) ⊎ (link ≡ 4)) → P 255 → GatesAt open_gates link t P
unfolding open_gates
is_open link t P (inl from_a) has = (0, record { link = 0; entries = open_entries }, omega arith, refl, (sym from_a, (255, octet_open t, has)))
is_open link t P (inr (inl from_b)) has = (1, record { link = 2; entries = open_entries }, omega arith, refl, (sym from_b, (255, octet_open t, has)))
is_open link t P (inr (inr to_c)) has = (2, record { link = 4; entries = open_entries }, omega arith, refl, (sym to_c, (255, octet_open t, has)))

background_open : (t : ℕ) → BackgroundOpen open_gates 4 t
background_open t = is_open 4 t (λ octet. bit_and octet 0x7F ≢ 0) (inr (inr refl)) (λ never. suc-ne-zero _ never)

-- ---- the passages of one cycle

-- each passage fits everywhere
fits : (p : Passage) → IsPassage small_network 1 p → (t : ℕ) → FitsAt small_network open_gates p t
unfolding small_network stream_at route_of link_of
fits p is t u since until = is_open (link_of small_network p) u (λ octet. IsBitSet octet 7)
    (each_passage (λ q. (link_of small_network q ≡ 0) ⊎ ((link_of small_network q ≡ 2) ⊎ (link_of small_network q ≡ 4))) (inl refl) (inr (inl refl))
    (inr (inr refl)) (inr (inr refl)) p is) (λ never. suc-ne-zero _ never)

-- ---- when each passage starts, and when it is ready

abbrev at_hop : ℕ → ℕ → ℕ → ℕ → ℕ
at_hop first second stream zero = 0
at_hop first second zero (suc hop) = first
at_hop first second (suc stream) (suc hop) = second

module _ (first second : ℕ) (background : List BackgroundStart) where
  abbrev run : BridgeRun
  run = run_of first second background

  began : (p : Passage) (t : ℕ) → StartedAt run p t → t ≡ at_hop first second p.stream p.hop
  began p t (zero, below, is) = sym (ap (λ (s : ScheduledStart). s.time) is) ∙ ap
      (λ (s : ScheduledStart). at_hop first second s.passage.stream s.passage.hop) is
  began p t (suc zero, below, is) = sym (ap (λ (s : ScheduledStart). s.time) is) ∙ ap
      (λ (s : ScheduledStart). at_hop first second s.passage.stream s.passage.hop) is
  began p t (suc (suc zero), below, is) = sym (ap (λ (s : ScheduledStart). s.time) is) ∙ ap
      (λ (s : ScheduledStart). at_hop first second s.passage.stream s.passage.hop) is
  began p t (suc (suc (suc zero)), below, is) = sym (ap (λ (s : ScheduledStart). s.time) is) ∙ ap
      (λ (s : ScheduledStart). at_hop first second s.passage.stream s.passage.hop) is
  began p t (suc (suc (suc (suc k))), below, is) = absurd (omega arith)

  began_hop : (p : Passage) (t : ℕ) → StartedAt run p t → p.hop < 2
  began_hop p t (zero, below, is) = let hop = ap (λ (s : ScheduledStart). s.passage.hop) is in omega arith
  began_hop p t (suc zero, below, is) = let hop = ap (λ (s : ScheduledStart). s.passage.hop) is in omega arith
  began_hop p t (suc (suc zero), below, is) = let hop = ap (λ (s : ScheduledStart). s.passage.hop) is in omega arith
  began_hop p t (suc (suc (suc zero)), below, is) = let hop = ap (λ (s : ScheduledStart). s.passage.hop) is in omega arith
  began_hop p t (suc (suc (suc (suc k))), below, is) = absurd (omega arith)

  starts_0 : StartedAt run (passage 0 0) 0
  starts_0 = (0, omega arith, refl)

  starts_1 : StartedAt run (passage 1 0) 0
  starts_1 = (1, omega arith, refl)

  starts_first : StartedAt run (passage 0 1) first
  starts_first = (2, omega arith, refl)

  starts_second : StartedAt run (passage 1 1) second
  starts_second = (3, omega arith, refl)

  -- from the start on the first link the frame takes 1626 ns to the next one
  on_next : (stream t : ℕ) → stream < 2 → IsReady small_network at_once run (passage stream 1) t → t ≡ 1626
  unfolding small_network stream_at octets_of route_of link_at transfer hop_delay
  on_next zero t counted (inl (hop, at)) = absurd (omega arith)
  on_next zero t counted (inr (zero, s, next, at, after)) = let start = began (passage 0 0) s at in after ∙ ap (λ n. n + 1626) start
  on_next zero t counted (inr (suc before, s, next, at, after)) =
      let is = follow 0 (suc before) 1 (omega arith) (began_hop (passage 0 (suc before)) s at) (omega arith) next in absurd (omega (arith, is.0))
  on_next (suc zero) t counted (inl (hop, at)) = absurd (omega arith)
  on_next (suc zero) t counted (inr (zero, s, next, at, after)) = let start = began (passage 1 0) s at in after ∙ ap (λ n. n + 1626) start
  on_next (suc zero) t counted (inr (suc before, s, next, at, after)) =
      let is = follow 1 (suc before) 1 (omega arith) (began_hop (passage 1 (suc before)) s at) (omega arith) next in absurd (omega (arith, is.0))
  on_next (suc (suc stream)) t counted ready = absurd (omega arith)

  ready_next : (stream : ℕ) → stream < 2 → IsReady small_network at_once run (passage stream 1) 1626
  unfolding small_network stream_at octets_of route_of link_at transfer hop_delay
  ready_next zero counted = inr (0, 0, refl, starts_0, refl)
  ready_next (suc zero) counted = inr (0, 0, refl, starts_1, refl)
  ready_next (suc (suc stream)) counted = absurd (omega arith)

  ready_first : (stream : ℕ) → stream < 2 → IsReady small_network at_once run (passage stream 0) 0
  unfolding small_network at_once
  ready_first zero counted = inl (refl, refl)
  ready_first (suc zero) counted = inl (refl, refl)
  ready_first (suc (suc stream)) counted = absurd (omega arith)

-- ---- wires

abbrev use_on : ℕ → ℕ → WireUse
use_on link from = record { link = link; from = from; until = from + 672 }

abbrev uses : ℕ → ℕ → List WireUse → List WireUse
uses first second rest = use_on 0 0 ∷ use_on 2 0 ∷ use_on 4 first ∷ use_on 4 second ∷ rest

uses_alone : (first second : ℕ) → wire_uses small_network (run_of first second []) ≡ uses first second []
unfolding small_network stream_at octets_of route_of link_at occupancy link_of length_of scheduled_use background_use wire_uses
uses_alone first second = refl

uses_with : (first second time : ℕ) → wire_uses small_network (run_of first second (sent_at time)) ≡ uses first second (use_on 4 time ∷ [])
unfolding small_network stream_at octets_of route_of link_at occupancy link_of length_of scheduled_use background_use wire_uses
uses_with first second time = refl

any_cons : {X : Type 0} (P : X → Type 0) (x : X) (xs : List X) → (P x → ⊥) → (Any P xs → ⊥) → Any P (x ∷ xs) → ⊥
any_cons P x xs here later (zero, y, below, is, has) = here (subst P (sym is) has)
any_cons P x xs here later (suc k, y, below, is, has) = later (k, y, omega arith, is, has)

any_nil : {X : Type 0} (P : X → Type 0) → Any P [] → ⊥
any_nil P (k, y, below, is, has) = omega arith

-- none of these uses has the property
none_has : (P : WireUse → Type 0) (first second : ℕ) (rest : List WireUse) → (P (use_on 0 0) → ⊥) → (P (use_on 2 0) → ⊥) → (P (use_on 4 first) → ⊥)
    → (P (use_on 4 second) → ⊥) → (Any P rest → ⊥) → Any P (uses first second rest) → ⊥
none_has P first second rest a b c d others = grind (arith, any_cons)

each_use : (P : WireUse → Type 0) (first second time : ℕ) → P (use_on 0 0) → P (use_on 2 0) → P (use_on 4 first) → P (use_on 4 second) → P (use_on 4 time)
    → All P (uses first second (use_on 4 time ∷ []))
each_use P first second time a b c d e = grind (arith, All-cons, All-nil)

each_start : (P : ScheduledStart → Type 0) (first second : ℕ) → P (record { passage = passage 0 0; time = 0 })
    → P (record { passage = passage 1 0; time = 0 }) → P (record { passage = passage 0 1; time = first })
    → P (record { passage = passage 1 1; time = second }) → All P (small_starts first second)
each_start P first second a b c d zero e below = a
each_start P first second a b c d (suc zero) e below = b
each_start P first second a b c d (suc (suc zero)) e below = c
each_start P first second a b c d (suc (suc (suc zero))) e below = d
each_start P first second a b c d (suc (suc (suc (suc k)))) e below = absurd (omega arith)

each_sent : (P : BackgroundStart → Type 0) (time : ℕ) → P (record { link = 4; time = time; octets = 64; number = 0 }) → All P (sent_at time)
each_sent P time a = All-cons P (record { link = 4; time = time; octets = 64; number = 0 }) [] a (All-nil P)

-- ---- the right run

abbrev right : BridgeRun
right = run_of 1626 2298 (sent_at 2970)

disjoint : AllPairs AreDisjoint (uses 1626 2298 (use_on 4 2970 ∷ []))
disjoint (zero) (zero) d order below = absurd (omega arith)
disjoint (zero) (suc zero) d order below = λ same t a_from a_until b_from b_until. omega arith
disjoint (zero) (suc (suc zero)) d order below = λ same t a_from a_until b_from b_until. omega arith
disjoint (zero) (suc (suc (suc zero))) d order below = λ same t a_from a_until b_from b_until. omega arith
disjoint (zero) (suc (suc (suc (suc zero)))) d order below = λ same t a_from a_until b_from b_until. omega arith
disjoint (suc zero) (zero) d order below = absurd (omega arith)
disjoint (suc zero) (suc zero) d order below = absurd (omega arith)
disjoint (suc zero) (suc (suc zero)) d order below = λ same t a_from a_until b_from b_until. omega arith
disjoint (suc zero) (suc (suc (suc zero))) d order below = λ same t a_from a_until b_from b_until. omega arith
disjoint (suc zero) (suc (suc (suc (suc zero)))) d order below = λ same t a_from a_until b_from b_until. omega arith
disjoint (suc (suc zero)) (suc (suc (suc zero))) d order below = λ same t a_from a_until b_from b_until. omega arith
disjoint (suc (suc zero)) (suc (suc (suc (suc zero)))) d order below = λ same t a_from a_until b_from b_until. omega arith
disjoint (suc (suc (suc zero))) (suc (suc (suc (suc zero)))) d order below = λ same t a_from a_until b_from b_until. omega arith
disjoint i j d order below = absurd (omega arith)

-- the second stream's frame waits for the first one: at 1626 it is behind it in the queue, and then the first one has the wire
behind : (t : ℕ) → 1626 ≤ t → t < 2298 → IsBlocked small_network at_once open_gates 1 right (passage 1 1) 1626 t
unfolding small_network stream_at route_of link_of
behind t since until = elim (cases_lt 1626 t) [
  | inl past ↦ inr (inl (subst (Any (λ (wire : WireUse). (wire.link ≡ 4) × (wire.from < t) × (t < wire.until))) (sym (uses_with 1626 2298 2970))
      (2, use_on 4 1626, omega arith, refl, (refl, past, omega arith))))
  | inr first ↦ inr (inr (
    passage 0 1,
    1626,
    is_passage 0 1 (omega arith) (omega arith),
    record { same_link = refl; ready = ready_next 1626 2298 (sent_at 2970) 0 (omega arith); order = inr (refl, omega arith) },
    λ s at. let start = began 1626 2298 (sent_at 2970) (passage 0 1) s at in omega arith,
  ))
]

waits_right : (p : Passage) → IsPassage small_network 1 p → (ready t : ℕ) → IsReady small_network at_once right p ready → ready ≤ t
    → NotStartedBefore right p (t + 1) → IsBlocked small_network at_once open_gates 1 right p ready t
waits_right = each_passage (λ p. (ready t : ℕ) → IsReady small_network at_once right p ready → ready ≤ t → NotStartedBefore right p (t + 1)
    → IsBlocked small_network at_once open_gates 1 right p ready t)
    (λ ready t is since unstarted. let late = unstarted 0 (starts_0 1626 2298 (sent_at 2970)) in absurd (omega arith))
    (λ ready t is since unstarted. let late = unstarted 0 (starts_1 1626 2298 (sent_at 2970)) in absurd (omega arith))
    (λ ready t is since unstarted.
    let late = unstarted 1626 (starts_first 1626 2298 (sent_at 2970)) in
    let at = on_next 1626 2298 (sent_at 2970) 0 ready (omega arith) is in
    absurd (omega arith))
    (λ ready t is since unstarted.
    let late = unstarted 2298 (starts_second 1626 2298 (sent_at 2970)) in
    let at = on_next 1626 2298 (sent_at 2970) 1 ready (omega arith) is in
    subst (λ r. IsBlocked small_network at_once open_gates 1 right (passage 1 1) r t) (sym at) (behind t (omega arith) (omega arith)))

cycle_is : 1 * small_network.cycle ≡ 1000000
unfolding small_network
cycle_is = refl

right_run : IsBridgeRun small_network at_once open_gates 1 right
right_run = record {
  wires_shared = subst (AllPairs AreDisjoint) (sym (uses_with 1626 2298 2970)) disjoint;
  uses_begin = grind (arith, uses_with, cycle_is, each_use);
  background_length = each_sent (λ (begun : BackgroundStart). begun.octets ≤ 1522) 2970 (omega arith);
  background_open = each_sent (λ (begun : BackgroundStart). BackgroundOpen open_gates begun.link begun.time) 2970 (background_open 2970);
  passages = each_start (λ (begun : ScheduledStart). IsPassage small_network 1 begun.passage) 1626 2298
      (is_passage 0 0 (omega arith) (omega arith)) (is_passage 1 0 (omega arith) (omega arith)) (is_passage 0 1 (omega arith) (omega arith))
      (is_passage 1 1 (omega arith) (omega arith));
  once = λ p s t one other. began 1626 2298 (sent_at 2970) p s one ∙ sym (began 1626 2298 (sent_at 2970) p t other);
  ready = each_start (λ (begun : ScheduledStart). (t : ℕ) × IsReady small_network at_once right begun.passage t × (t ≤ begun.time)) 1626 2298
      (0, ready_first 1626 2298 (sent_at 2970) 0 (omega arith), omega arith) (0, ready_first 1626 2298 (sent_at 2970) 1 (omega arith), omega arith)
      (1626, ready_next 1626 2298 (sent_at 2970) 0 (omega arith), omega arith) (1626, ready_next 1626 2298 (sent_at 2970) 1 (omega arith), omega arith);
  fits = each_start (λ (begun : ScheduledStart). FitsAt small_network open_gates begun.passage begun.time) 1626 2298
      (fits (passage 0 0) (is_passage 0 0 (omega arith) (omega arith)) 0) (fits (passage 1 0) (is_passage 1 0 (omega arith) (omega arith)) 0)
      (fits (passage 0 1) (is_passage 0 1 (omega arith) (omega arith)) 1626) (fits (passage 1 1) (is_passage 1 1 (omega arith) (omega arith)) 2298);
  waits = λ p ready t is at since in_time unstarted. waits_right p is ready t at since unstarted;
}

-- ---- wrong runs

-- two frames at once on the link to C
early : IsBridgeRun small_network at_once open_gates 1 (run_of 1626 2297 []) → ⊥
early run =
    let apart = subst (AllPairs AreDisjoint) (uses_alone 1626 2297) run.wires_shared in
    apart 2 3 (use_on 0 0) (omega arith) (omega arith) refl 2297 (omega arith) (omega arith) (omega arith) (omega arith)

second_is : IsPassage small_network 1 (passage 1 1)
second_is = is_passage 1 1 (omega arith) (omega arith)

first_is : IsPassage small_network 1 (passage 0 1)
first_is = is_passage 0 1 (omega arith) (omega arith)

-- before the second frame, where it hasn't started at 2298, no other one is in the queue then
alone_late : (ready : ℕ) (earlier : Passage) → IsPassage small_network 1 earlier
    → IsQueuedBefore small_network at_once (run_of 1626 2299 []) earlier ready (passage 1 1) 1626 → NotStartedBefore (run_of 1626 2299 []) earlier 2298 → ⊥
unfolding small_network stream_at route_of link_of
alone_late ready = each_passage
    (λ p. IsQueuedBefore small_network at_once (run_of 1626 2299 []) p ready (passage 1 1) 1626 → NotStartedBefore (run_of 1626 2299 []) p 2298 → ⊥)
    (λ queued unstarted. let same = queued.same_link in omega arith)
    (λ queued unstarted. let same = queued.same_link in omega arith)
    (λ queued unstarted. let started = unstarted 1626 (starts_first 1626 2299 []) in omega arith)
    (λ queued unstarted. let at = on_next 1626 2299 [] 1 ready
    (omega arith) queued.ready in elim queued.order [ inl less ↦ omega arith | inr tie ↦ let less = tie.1 in omega arith ])

unblocked_late : IsBlocked small_network at_once open_gates 1 (run_of 1626 2299 []) (passage 1 1) 1626 2298 → ⊥
unblocked_late (inl closed) = closed (fits (passage 1 1) second_is 2298)
unblocked_late (inr (inl wire)) = none_has
    (λ (wire : WireUse). (wire.link ≡ link_of small_network (passage 1 1)) × (wire.from < 2298) × (2298 < wire.until)) 1626 2299 []
    (λ has. let until = has.2 in omega arith) (λ has. let until = has.2 in omega arith) (λ has. let until = has.2 in omega arith)
    (λ has. let from = has.1 in omega arith)
    (any_nil (λ (wire : WireUse). (wire.link ≡ link_of small_network (passage 1 1)) × (wire.from < 2298) × (2298 < wire.until)))
    (subst (Any (λ (wire : WireUse). (wire.link ≡ link_of small_network (passage 1 1)) × (wire.from < 2298) × (2298 < wire.until))) (uses_alone 1626 2299) wire)
unblocked_late (inr (inr (earlier, ready, is, queued, unstarted))) = alone_late ready earlier is queued unstarted

-- nothing is in the way of the second frame at 2298
late : IsBridgeRun small_network at_once open_gates 1 (run_of 1626 2299 []) → ⊥
late run =
    let end = cycle_is in
    unblocked_late (run.waits (passage 1 1) 1626 2298 second_is (ready_next 1626 2299 [] 1 (omega arith)) (omega arith) (omega arith)
    (λ s at. let start = began 1626 2299 [] (passage 1 1) s at in omega arith))

-- before the first stream's frame no other one is in the queue
alone_first : (ready : ℕ) (earlier : Passage) → IsPassage small_network 1 earlier
    → IsQueuedBefore small_network at_once (run_of 2298 1626 []) earlier ready (passage 0 1) 1626 → ⊥
unfolding small_network stream_at route_of link_of
alone_first ready = each_passage (λ p. IsQueuedBefore small_network at_once (run_of 2298 1626 []) p ready (passage 0 1) 1626 → ⊥)
    (λ queued. let same = queued.same_link in omega arith)
    (λ queued. let same = queued.same_link in omega arith)
    (λ queued. let at = on_next 2298 1626 [] 0 ready
    (omega arith) queued.ready in elim queued.order [ inl less ↦ omega arith | inr tie ↦ let less = tie.1 in omega arith ])
    (λ queued. let at = on_next 2298 1626 [] 1 ready
    (omega arith) queued.ready in elim queued.order [ inl less ↦ omega arith | inr tie ↦ let less = tie.1 in omega arith ])

unblocked_first : IsBlocked small_network at_once open_gates 1 (run_of 2298 1626 []) (passage 0 1) 1626 1626 → ⊥
unblocked_first (inl closed) = closed (fits (passage 0 1) first_is 1626)
unblocked_first (inr (inl wire)) = none_has
    (λ (wire : WireUse). (wire.link ≡ link_of small_network (passage 0 1)) × (wire.from < 1626) × (1626 < wire.until)) 2298 1626 []
    (λ has. let until = has.2 in omega arith) (λ has. let until = has.2 in omega arith) (λ has. let from = has.1 in omega arith)
    (λ has. let from = has.1 in omega arith)
    (any_nil (λ (wire : WireUse). (wire.link ≡ link_of small_network (passage 0 1)) × (wire.from < 1626) × (1626 < wire.until)))
    (subst (Any (λ (wire : WireUse). (wire.link ≡ link_of small_network (passage 0 1)) × (wire.from < 1626) × (1626 < wire.until))) (uses_alone 2298 1626) wire)
unblocked_first (inr (inr (earlier, ready, is, queued, unstarted))) = alone_first ready earlier is queued

-- nothing is in the way of the first stream's frame at 1626
other_first : IsBridgeRun small_network at_once open_gates 1 (run_of 2298 1626 []) → ⊥
other_first run =
    let end = cycle_is in
    unblocked_first (run.waits (passage 0 1) 1626 1626 first_is (ready_next 2298 1626 [] 0 (omega arith)) (omega arith) (omega arith)
    (λ s at. let start = began 2298 1626 [] (passage 0 1) s at in omega arith))

twice : IsBridgeRun small_network at_once open_gates 1 run_with_twice → ⊥
unfolding run_with_twice
twice run = let same = run.once (passage 0 0) 0 5000 (0, omega arith, refl) (4, omega arith, refl) in omega arith

pub small_run : SmallRun
small_run = record { right = right_run; early = early; late = late; other_first = other_first; twice = twice }

-- ---- the background frame

abbrev wanted_from : ℕ → List BackgroundFrame
wanted_from wanted = record { link = 4; wanted = wanted; octets = 64 } ∷ []

-- no frame is before the only one
alone : (wanted earlier : ℕ) → IsBefore (wanted_from wanted) earlier 0 → ⊥
unfolding frame_at
alone wanted zero before = elim before.order [ inl less ↦ omega arith | inr tie ↦ let less = tie.1 in omega arith ]
alone wanted (suc earlier) before = let below = before.listed in omega arith

-- where the frame could start its gates are open, so a wire that is not taken holds it no longer
held : (first second : ℕ) (background : List BackgroundStart) (t : ℕ) → (IsTaken small_network (run_of first second background) 4 t → ⊥)
    → IsHeld small_network open_gates (run_of first second background) 4 t → ⊥
held first second background t untaken (inl closed) = closed (background_open t)
held first second background t untaken (inr taken) = untaken taken

right_feed : IsFedByList small_network open_gates 1 (wanted_from 2000) right
unfolding frame_at
right_feed = record {
  listed = each_sent (λ (begun : BackgroundStart). (begun.number < 1) × (begun.link ≡ (frame_at (wanted_from 2000) begun.number).link) ×
      (begun.octets ≡ (frame_at (wanted_from 2000) begun.number).octets)) 2970 (omega arith, refl, refl);
  once = λ i j d order below. absurd (omega arith);
  wanted = each_sent (λ (begun : BackgroundStart). (frame_at (wanted_from 2000) begun.number).wanted ≤ begun.time) 2970 (omega arith);
  in_order = each_sent (λ (begun : BackgroundStart). (earlier : ℕ) → IsBefore (wanted_from 2000) earlier begun.number
      → FrameStartedBefore right earlier begun.time) 2970 (λ earlier before. absurd (alone 2000 earlier before));
  waits = waits;
}
  where
    on_wire : (t : ℕ) → 2000 ≤ t → t < 2970 → IsTaken small_network right 4 t
    on_wire t since until = subst (Any (λ (wire : WireUse). (wire.link ≡ 4) × (wire.from ≤ t) × (t < wire.until))) (sym (uses_with 1626 2298 2970))
        (elim (cases_lt t 2298) [
          | inl first ↦ (2, use_on 4 1626, omega arith, refl, (refl, omega arith, omega arith))
          | inr second ↦ (3, use_on 4 2298, omega arith, refl, (refl, omega arith, omega arith))
        ])

    waits : (number t : ℕ) → number < 1 → (frame_at (wanted_from 2000) number).wanted ≤ t → t < 1 * small_network.cycle
        → (FrameStartedBefore right number (t + 1) → ⊥)
        → IsHeld small_network open_gates right (frame_at (wanted_from 2000) number).link t ⊎
        ((earlier : ℕ) × IsBefore (wanted_from 2000) earlier number × (FrameStartedBefore right earlier (t + 1) → ⊥))
    waits zero t below since in_time unstarted = elim (cases_lt t 2970) [
      | inl until ↦ inl (inr (on_wire t since until))
      | inr past ↦ absurd (unstarted (0, record { link = 4; time = 2970; octets = 64; number = 0 }, omega arith, refl, (refl, omega arith)))
    ]
    waits (suc number) t below since in_time unstarted = absurd (omega arith)

early_sent : IsBridgeRun small_network at_once open_gates 1 (run_of 1626 2298 (sent_at 2969)) → ⊥
early_sent run =
    let apart = subst (AllPairs AreDisjoint) (uses_with 1626 2298 2969) run.wires_shared in
    apart 3 4 (use_on 0 0) (omega arith) (omega arith) refl 2969 (omega arith) (omega arith) (omega arith) (omega arith)

late_sent : IsFedByList small_network open_gates 1 (wanted_from 2000) (run_of 1626 2298 (sent_at 2971)) → ⊥
unfolding frame_at
late_sent fed =
    let end = cycle_is in
    elim (fed.waits 0 2970 (omega arith) (omega arith) (omega arith)
    (any_cons (λ (begun : BackgroundStart). (begun.number ≡ 0) × (begun.time < 2971)) (record { link = 4; time = 2971; octets = 64; number = 0 }) []
    (λ has. let soon = has.1 in omega arith) (any_nil (λ (begun : BackgroundStart). (begun.number ≡ 0) × (begun.time < 2971))))) [
      | inl waits ↦ held 1626 2298 (sent_at 2971) 2970 untaken waits
      | inr behind ↦ alone 2000 behind.0 behind.1
    ]
  where
    untaken : IsTaken small_network (run_of 1626 2298 (sent_at 2971)) 4 2970 → ⊥
    untaken wire = grind (arith, none_has, any_cons, any_nil, uses_with)

left_out : IsFedByList small_network open_gates 1 (wanted_from 2000) (run_of 1626 2298 []) → ⊥
unfolding frame_at
left_out fed =
    let end = cycle_is in
    elim (fed.waits 0 2970 (omega arith) (omega arith) (omega arith) (any_nil (λ (begun : BackgroundStart). (begun.number ≡ 0) × (begun.time < 2971)))) [
      | inl waits ↦ held 1626 2298 [] 2970 untaken waits
      | inr behind ↦ alone 2000 behind.0 behind.1
    ]
  where
    untaken : IsTaken small_network (run_of 1626 2298 []) 4 2970 → ⊥
    untaken wire = grind (arith, none_has, any_nil, uses_alone)

unwanted : IsFedByList small_network open_gates 1 (wanted_from 3000) (run_of 1626 2298 (sent_at 2999)) → ⊥
unfolding frame_at
unwanted fed = let since = fed.wanted 0 (record { link = 4; time = 2999; octets = 64; number = 0 }) (omega arith) in omega arith

pub small_background : SmallBackground
small_background = record { right = right_feed; early = early_sent; late = late_sent; left_out = left_out; unwanted = unwanted }
