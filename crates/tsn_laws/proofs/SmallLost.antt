-- The small network where the first frame is lost, and the second one is ready early or on time.
use Rattle.std.proofs.Common.{◌≡◌, ℕ, zero, suc, ◌+◌, ◌*◌, ◌≤◌, ◌<◌, List, [], ◌∷◌, slice_index, All, AllPairs, Contains, refl, sym, ap, ◌∙◌, subst, arith, inl, inr}
use Rattle.std.proofs.lemmas.Bool.{cases_lt}
use Rattle.std.proofs.lemmas.List.Elements.{All-nil}
use Rattle.tsn_model.specs.Network.{stream_at, octets_of, route_of, route_link, link_at}
use Rattle.tsn_model.specs.Timing.{occupancy, transfer, hop_delay}
use Rattle.tsn_model.specs.Bridge.{LinkGates, HasWantedGates, Passage, ScheduledStart, BackgroundStart, BridgeRun, WireUse, link_of, length_of, scheduled_use, wire_uses, AreDisjoint, IsPassage, StartedAt, NotStartedBefore, IsReady, FitsAt, IsBlocked, ScheduledOpen, planned}
use Rattle.tsn_model.specs.Failures.{IsBridgeRunWithout, IsIntact}
use Rattle.tsn_model.specs.Early.{IsDelayed, IsEarlyRunWithout, Tolerates}
use Rattle.tsn_model.specs.Examples.{small_network, small_offsets}
use Rattle.tsn_model.specs.EarlyExamples.{ready_from, sent_alone, SmallLost}
use Rattle.tsn_model.proofs.Lists.{Contains-cons_cases, Contains-nil, Contains-head, Contains-more}
use Rattle.tsn_laws.proofs.Small.{small_formed, small_valid, both_streams, all_two, pairs_two}
use Rattle.tsn_model.proofs.Routes.{use_of, UsesLink-counted}
use Rattle.tsn_model.proofs.OnTime.{short_tolerated}
use Rattle.tsn_laws.proofs.SmallEarly.{passage, each_passage, is_passage, on_link, first_planned, second_planned, use_on, cycle_is, length_is, follow, two_hops, delay_first, delays, fits_first, sent_second}

module _ (time : ℕ) where
  abbrev run : BridgeRun
  run = sent_alone time

  abbrev at_hop : ℕ → ℕ
  at_hop zero = 672
  at_hop (suc hop) = time

  -- what starts is the second frame
  began : (p : Passage) (t : ℕ) → StartedAt run p t → (p.stream ≡ 1) × (p.hop < 2) × (t ≡ at_hop p.hop)
  unfolding sent_alone
  began p t (zero, below, is) =
      let hop = ap (λ (s : ScheduledStart). s.passage.hop) is in (
        sym (ap (λ (s : ScheduledStart). s.passage.stream) is),
        omega arith,
        sym (ap (λ (s : ScheduledStart). s.time) is) ∙ ap (λ (s : ScheduledStart). at_hop s.passage.hop) is,
      )
  began p t (suc zero, below, is) =
      let hop = ap (λ (s : ScheduledStart). s.passage.hop) is in (
        sym (ap (λ (s : ScheduledStart). s.passage.stream) is),
        omega arith,
        sym (ap (λ (s : ScheduledStart). s.time) is) ∙ ap (λ (s : ScheduledStart). at_hop s.passage.hop) is,
      )
  began p t (suc (suc k), below, is) = absurd (omega arith)

  starts : (hop : ℕ) → hop < 2 → StartedAt run (passage 1 hop) (at_hop hop)
  unfolding sent_alone
  starts zero below = (0, omega arith, refl)
  starts (suc zero) below = (1, omega arith, refl)
  starts (suc (suc hop)) below = absurd (omega arith)

  each_start : (P : ScheduledStart → Type 0) → ((hop : ℕ) → hop < 2 → P (record { passage = passage 1 hop; time = at_hop hop })) → All P run.scheduled
  unfolding sent_alone
  each_start P each = all_two P _ _ (each 0 (omega arith)) (each 1 (omega arith))

  uses : wire_uses small_network run ≡ use_on 2 672 ∷ use_on 4 time ∷ []
  unfolding sent_alone small_network stream_at octets_of route_of link_at occupancy link_of length_of scheduled_use wire_uses
  uses = refl

  -- ---- when frames are due

  due_sent : (t : ℕ) → IsReady small_network small_offsets run (passage 1 0) t → t ≡ 672
  unfolding small_network small_offsets stream_at route_of link_at
  due_sent t (inl (sent, at)) = at
  due_sent t (inr (before, s, continues, at, after)) =
      let started = began (passage 1 before) s at in
      let is = follow 1 before 0 (omega arith) started.1 (omega arith) continues in
      absurd (omega (arith, is.1))

  due_next : (t : ℕ) → IsReady small_network small_offsets run (passage 1 1) t → t ≡ 2298
  unfolding small_network small_offsets stream_at route_of link_at
  due_next t (inl (sent, at)) = absurd (omega arith)
  due_next t (inr (before, s, continues, at, after)) =
      let started = began (passage 1 before) s at in
      let is = follow 1 before 1 (omega arith) started.1 (omega arith) continues in
      let delay : hop_delay small_network 1 (route_link small_network 1 before) ≡ 1626 =
      ap (λ h. hop_delay small_network 1 (route_link small_network 1 h)) is.0 ∙ delay_first 1 (omega arith) in
      let time : s ≡ 672 = started.2 ∙ ap at_hop is.0 in
      omega (arith, after)

  due_lost : (t : ℕ) → IsReady small_network small_offsets run (passage 0 0) t → t ≡ 0
  unfolding small_network small_offsets stream_at route_of link_at
  due_lost t (inl (sent, at)) = at
  due_lost t (inr (before, s, continues, at, after)) = let started = began (passage 0 before) s at in absurd (omega (arith, started.0))

  never_due : (t : ℕ) → IsReady small_network small_offsets run (passage 0 1) t → ⊥
  unfolding small_network small_offsets stream_at route_of link_at
  never_due t (inl (sent, at)) = absurd (omega arith)
  never_due t (inr (before, s, continues, at, after)) = let started = began (passage 0 before) s at in absurd (omega (arith, started.0))

  is_sent : IsReady small_network small_offsets run (passage 1 0) 672
  unfolding small_network small_offsets stream_at route_of link_at
  is_sent = inl (refl, refl)

  is_next : IsReady small_network small_offsets run (passage 1 1) 2298
  unfolding small_network small_offsets stream_at octets_of route_of link_at transfer hop_delay
  is_next = inr (0, 672, refl, starts 0 (omega arith), refl)

-- every link tolerates the slack
tolerated : Tolerates small_network small_offsets (λ link. 671)
unfolding length_of link_of
tolerated link = short_tolerated small_network small_formed small_offsets small_valid link 671
    (λ i used.
    let at = use_of small_network i link used in
    let two = two_hops i (UsesLink-counted small_network i link used) in
    let long = length_is i at.hop two.0 (omega (arith, two.1, at.counted)) in
    let same : occupancy small_network i (route_link small_network i at.hop) ≡ occupancy small_network i link = ap (occupancy small_network i) at.same_link in
    omega arith)
    (λ i before k counted before_within within continues same.
    let delay = delays i before k counted before_within within continues in omega arith)

ready_second : (ready_from 1627 (passage 1 0) ≡ 672) × (ready_from 1627 (passage 1 1) ≡ 1627)
unfolding ready_from small_offsets
ready_second = (refl, refl)

ready_lost : ready_from 1627 (passage 0 0) ≡ 0
unfolding ready_from small_offsets
ready_lost = refl

-- ---- the failed link

links : (link_of small_network (passage 0 0) ≡ 0) × (link_of small_network (passage 1 0) ≡ 2)
unfolding small_network stream_at route_of link_of
links = (refl, refl)

other_link : (link : ℕ) → 0 < link → Contains (0 ∷ []) link → ⊥
other_link link some has = elim (Contains-cons_cases 0 [] link has) [ inl same ↦ omega arith | inr none ↦ Contains-nil link none ]

not_failed : (hop : ℕ) → hop < 2 → Contains (0 ∷ []) (link_of small_network (passage 1 hop)) → ⊥
not_failed zero below = other_link (link_of small_network (passage 1 0)) (omega (arith, links.1))
not_failed (suc zero) below = other_link (link_of small_network (passage 1 1)) (let at = on_link 1 (omega arith) in omega arith)
not_failed (suc (suc hop)) below = absurd (omega arith)

whole : IsIntact (0 ∷ []) small_network (route_of small_network 1) 1
unfolding link_of
whole = record {
  way = 0 ∷ 1 ∷ [];
  has = among 1 (omega arith);
  closed = λ j next below has continues.
      let two = two_hops 1 (is_passage 1 0 (omega arith) (omega arith)).stream in
      among j (omega (arith, two.1));
  whole = all_two (λ j. Contains (0 ∷ []) (slice_index (route_of small_network 1) j) → ⊥) 0 1 (not_failed 0 (omega arith)) (not_failed 1 (omega arith));
}
  where
    among : (j : ℕ) → j < 2 → Contains (0 ∷ 1 ∷ []) j
    among = both_streams (λ j. Contains (0 ∷ 1 ∷ []) j) (Contains-head 0 (1 ∷ [])) (Contains-more 0 (1 ∷ []) 1 (Contains-head 1 []))

-- ---- the runs

module _ (gates : List LinkGates) (has : HasWantedGates small_network small_offsets gates) where
  fits_sent : FitsAt small_network gates (passage 1 0) 672
  fits_sent = subst (FitsAt small_network gates (passage 1 0)) (sent_second gates has) (fits_first gates has 1 0 (omega arith) (omega arith))

  -- what the run has where the second frame starts on the link to C at an instant
  module _ (time : ℕ) (soon : time < 1000000) (fits_next : FitsAt small_network gates (passage 1 1) time) where
    shared : AllPairs AreDisjoint (wire_uses small_network (sent_alone time))
    shared =
        subst (AllPairs AreDisjoint) (sym (uses time))
        (pairs_two AreDisjoint (use_on 2 672) (use_on 4 time) (λ same t a_from a_until b_from b_until. omega arith))

    begin : All (λ (wire : WireUse). wire.from < 1 * small_network.cycle) (wire_uses small_network (sent_alone time))
    begin =
        let end = cycle_is in
        subst (All (λ (wire : WireUse). wire.from < 1 * small_network.cycle)) (sym (uses time))
        (all_two (λ (wire : WireUse). wire.from < 1 * small_network.cycle) (use_on 2 672) (use_on 4 time) (omega arith) (omega arith))

    passages : All (λ (begun : ScheduledStart). IsPassage small_network 1 begun.passage) (sent_alone time).scheduled
    passages = each_start time (λ (begun : ScheduledStart). IsPassage small_network 1 begun.passage) (λ hop below. is_passage 1 hop (omega arith) below)

    silent : All (λ (begun : ScheduledStart). Contains (0 ∷ []) (link_of small_network begun.passage) → ⊥) (sent_alone time).scheduled
    silent = each_start time (λ (begun : ScheduledStart). Contains (0 ∷ []) (link_of small_network begun.passage) → ⊥) not_failed

    once : (p : Passage) (s t : ℕ) → StartedAt (sent_alone time) p s → StartedAt (sent_alone time) p t → s ≡ t
    once p s t one other = (began time p s one).2 ∙ sym (began time p t other).2

    fits_at : (hop : ℕ) → hop < 2 → FitsAt small_network gates (passage 1 hop) (at_hop time hop)
    fits_at zero below = fits_sent
    fits_at (suc zero) below = fits_next
    fits_at (suc (suc hop)) below = absurd (omega arith)

    fits : All (λ (begun : ScheduledStart). FitsAt small_network gates begun.passage begun.time) (sent_alone time).scheduled
    fits = each_start time (λ (begun : ScheduledStart). FitsAt small_network gates begun.passage begun.time) fits_at

  -- through the first frame's window and its own
  fits_both : FitsAt small_network gates (passage 1 1) 1627
  fits_both u begun ends =
      let first = first_planned in
      let second = second_planned in
      let long = length_is 1 1 (omega arith) (omega arith) in
      let as_long = length_is 0 1 (omega arith) (omega arith) in
      elim (cases_lt u 2298) [
        | inl before ↦
            subst (λ l. ScheduledOpen gates l u) (on_link 0 (omega arith) ∙ sym (on_link 1 (omega arith)))
            (fits_first gates has 0 1 (omega arith) (omega arith) u (omega arith) (omega arith))
        | inr not_before ↦ fits_first gates has 1 1 (omega arith) (omega arith) u (omega arith) (omega arith)
      ]

  begun_ready : (hop : ℕ) → hop < 2
      → (due : ℕ) × IsReady small_network small_offsets (sent_alone 1627) (passage 1 hop) due × (ready_from 1627 (passage 1 hop) ≤ at_hop 1627 hop)
  begun_ready zero below = (672, is_sent 1627, omega (arith, ready_second.0))
  begun_ready (suc zero) below = (2298, is_next 1627, omega (arith, ready_second.1))
  begun_ready (suc (suc hop)) below = absurd (omega arith)

  abbrev BySlack : Passage → Type 0
  BySlack p = (due : ℕ) → IsReady small_network small_offsets (sent_alone 1627) p due → (ready_from 1627 p ≤ due) × (due ≤ ready_from 1627 p + 671)

  early : (p : Passage) → IsPassage small_network 1 p → BySlack p
  early = each_passage BySlack
      (λ due is_ready. let at = due_lost 1627 due is_ready in let from = ready_lost in (omega arith, omega arith))
      (λ due is_ready. let at = due_sent 1627 due is_ready in (omega (arith, ready_second.0), omega (arith, ready_second.0)))
      (λ due is_ready. absurd (never_due 1627 due is_ready))
      (λ due is_ready. let at = due_next 1627 due is_ready in (omega (arith, ready_second.1), omega (arith, ready_second.1)))

  abbrev Waits : Passage → Type 0
  Waits p = (due t : ℕ) → (Contains (0 ∷ []) (link_of small_network p) → ⊥) → IsReady small_network small_offsets (sent_alone 1627) p due
      → ready_from 1627 p ≤ t → NotStartedBefore (sent_alone 1627) p (t + 1)
      → IsDelayed small_network small_offsets gates 1 (ready_from 1627) (sent_alone 1627) p t

  waits : (p : Passage) → IsPassage small_network 1 p → Waits p
  waits = each_passage Waits
      (λ due t unfailed is_ready since unstarted. absurd (unfailed (subst (Contains (0 ∷ [])) (sym links.0) (Contains-head 0 []))))
      (λ due t unfailed is_ready since unstarted. let late = unstarted 672 (starts 1627 0 (omega arith)) in absurd (omega (arith, ready_second.0)))
      (λ due t unfailed is_ready since unstarted. absurd (never_due 1627 due is_ready))
      (λ due t unfailed is_ready since unstarted. let late = unstarted 1627 (starts 1627 1 (omega arith)) in absurd (omega (arith, ready_second.1)))

  lost : IsEarlyRunWithout (0 ∷ []) small_network small_offsets gates 1 (λ link. 671) (ready_from 1627) (sent_alone 1627)
  unfolding sent_alone
  lost = record {
    wires_shared = shared 1627 (omega arith) fits_both;
    uses_begin = begin 1627 (omega arith) fits_both;
    background_length = All-nil (λ (begun : BackgroundStart). begun.octets ≤ 1522);
    background_open = λ k d below. absurd (omega arith);
    passages = passages 1627 (omega arith) fits_both;
    silent = silent 1627 (omega arith) fits_both;
    once = once 1627 (omega arith) fits_both;
    early = λ p due is is_ready. early p is due is_ready;
    begun_ready = each_start 1627 (λ (begun : ScheduledStart). (due : ℕ) × IsReady small_network small_offsets (sent_alone 1627) begun.passage due ×
        (ready_from 1627 begun.passage ≤ begun.time)) begun_ready;
    fits = fits 1627 (omega arith) fits_both;
    waits = λ p due t is unfailed is_ready since below unstarted. waits p is due t unfailed is_ready since unstarted;
  }

  -- and where it isn't ready early
  fits_window : FitsAt small_network gates (passage 1 1) 2298
  fits_window = subst (FitsAt small_network gates (passage 1 1)) second_planned (fits_first gates has 1 1 (omega arith) (omega arith))

  ready_then : (hop : ℕ) → hop < 2
      → (due : ℕ) × IsReady small_network small_offsets (sent_alone 2298) (passage 1 hop) due × (due ≤ at_hop 2298 hop)
  ready_then zero below = (672, is_sent 2298, omega arith)
  ready_then (suc zero) below = (2298, is_next 2298, omega arith)
  ready_then (suc (suc hop)) below = absurd (omega arith)

  abbrev IsHeld : Passage → Type 0
  IsHeld p = (due t : ℕ) → (Contains (0 ∷ []) (link_of small_network p) → ⊥) → IsReady small_network small_offsets (sent_alone 2298) p due
      → due ≤ t → NotStartedBefore (sent_alone 2298) p (t + 1) → IsBlocked small_network small_offsets gates 1 (sent_alone 2298) p due t

  held : (p : Passage) → IsPassage small_network 1 p → IsHeld p
  held = each_passage IsHeld
      (λ due t unfailed is_ready since unstarted. absurd (unfailed (subst (Contains (0 ∷ [])) (sym links.0) (Contains-head 0 []))))
      (λ due t unfailed is_ready since unstarted.
      let late = unstarted 672 (starts 2298 0 (omega arith)) in
      let at = due_sent 2298 due is_ready in
      absurd (omega arith))
      (λ due t unfailed is_ready since unstarted. absurd (never_due 2298 due is_ready))
      (λ due t unfailed is_ready since unstarted.
      let late = unstarted 2298 (starts 2298 1 (omega arith)) in
      let at = due_next 2298 due is_ready in
      absurd (omega arith))

  kept : IsBridgeRunWithout (0 ∷ []) small_network small_offsets gates 1 (sent_alone 2298)
  unfolding sent_alone
  kept = record {
    wires_shared = shared 2298 (omega arith) fits_window;
    uses_begin = begin 2298 (omega arith) fits_window;
    background_length = All-nil (λ (begun : BackgroundStart). begun.octets ≤ 1522);
    background_open = λ k d below. absurd (omega arith);
    passages = passages 2298 (omega arith) fits_window;
    silent = silent 2298 (omega arith) fits_window;
    once = once 2298 (omega arith) fits_window;
    ready = each_start 2298 (λ (begun : ScheduledStart). (due : ℕ) × IsReady small_network small_offsets (sent_alone 2298) begun.passage due ×
        (due ≤ begun.time)) ready_then;
    fits = fits 2298 (omega arith) fits_window;
    waits = λ p due t is unfailed is_ready since below unstarted. held p is due t unfailed is_ready since unstarted;
  }

sooner : StartedAt (sent_alone 1627) (passage 1 1) (planned small_network small_offsets (passage 1 1)) → ⊥
sooner at = let started = began 1627 (passage 1 1) _ at in let second = second_planned in omega (arith, started.2)

pub small_lost : SmallLost
small_lost = record { tolerated = tolerated; lost = lost; whole = whole; kept = kept; sooner = sooner }
