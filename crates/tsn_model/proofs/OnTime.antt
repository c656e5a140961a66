-- What a schedule tolerates, and runs in which no frame is early: each scheduled frame of these starts on time.
use Rattle.std.proofs.Common.{◌≡◌, ℕ, zero, suc, ◌+◌, ◌-◌, ◌*◌, ◌≤◌, ◌<◌, ◌⊎◌, List, [], ◌∷◌, get_or, Contains, refl, sym, ap, ◌∙◌, subst, arith, inl, inr, nat_lt, if◌then◌else◌, lt-ltb, le-ltb}
use Rattle.std.proofs.lemmas.Bool.{cond-true, cond-false}
use Rattle.std.proofs.lemmas.List.Elements.{All-contains}
use Rattle.tsn_model.specs.Network.{Network, IsWellFormed, IsRoute, stream_count, route_of, hop_count, route_link, IsSent, Continues}
use Rattle.tsn_model.specs.Timing.{occupancy, hop_delay, UsesLink}
use Rattle.tsn_model.specs.Schedule.{IsValid, offset_of}
use Rattle.tsn_model.specs.Bridge.{LinkGates, Passage, ScheduledStart, BridgeRun, link_of, length_of, IsPassage, StartedAt, IsReady, IsBlocked, IsBridgeRun, ScheduledOpen, HasWantedGates, planned, StartsOnTime}
use Rattle.tsn_model.specs.Kept.{KeepsOctet, KeepsWantedGates}
use Rattle.tsn_model.specs.Early.{IsDelayed, IsEarlyRunWithout, IsEarlyRun, AreSpacedOn, ToleratesOn, Tolerates, place_before, readiness, HoldsTo, HoldsToWithout, ToleratesLead, slacks_back, slack_sum}
use Rattle.tsn_model.specs.Failures.{IsBridgeRunWithout, IsIntact}
use Rattle.tsn_model.proofs.Lists.{Contains-cons_cases, Contains-nil, Contains-head, Contains-more}
use Rattle.tsn_model.proofs.Branches.{follow_cases, continues-before}
use Rattle.tsn_model.proofs.Hops.{route_formed, passage_cases, hop_delay-pos}
use Rattle.tsn_model.proofs.EarlyRuns.{before_none, before_is, readiness_sent, readiness_continues, no_lead, uses, after_window, after_slack, all_intact, intact_in_time, starts_in_time, wanted_hold, no_lead_tolerated}

-- ---- the gates that a schedule asks for keep themselves

keeps_itself : (octet : ℕ) → KeepsOctet octet octet
keeps_itself octet = record { scheduled = λ is. is; others = λ is. is }

pub wanted_kept : (network : Network) (offsets : List ℕ) (gates : List LinkGates) → HasWantedGates network offsets gates
    → KeepsWantedGates network offsets gates
wanted_kept network offsets gates has = record {
  kept = λ k d inside i t octet uses at. (octet, has.wanted k d inside i t octet uses at, keeps_itself octet);
  listed = λ i link t uses.
      let found = has.listed i link t uses in
      (found.0, found.1, found.2, found.3, (found.4.0, (found.4.1.0, found.4.1.1, (found.4.1.0, found.4.1.2, keeps_itself found.4.1.0))));
}

-- ---- what every schedule tolerates

module _ (network : Network) (formed : IsWellFormed network) (offsets : List ℕ) (valid : IsValid network offsets) where
  -- passages that are early by less than another occupies their link
  spaced_by : (link : ℕ) (early : Passage → ℕ)
      → ((cycles : ℕ) (first second : Passage) → IsPassage network cycles first → IsPassage network cycles second → link_of network first ≡ link
      → link_of network second ≡ link → early second < length_of network first)
      → AreSpacedOn network offsets link early
  spaced_by link early short cycles first second first_passage second_passage first_link second_link less =
      let less_early = short cycles first second first_passage second_passage first_link second_link in
      let past = after_window network formed offsets valid cycles first second first_passage second_passage (first_link ∙ sym second_link)
      (λ same. let one : planned network offsets first ≡ planned network offsets second = ap (planned network offsets) same in omega arith) (omega arith) in
      omega arith

  pub short_tolerated : (link slack : ℕ) → ((i : ℕ) → UsesLink network i link → slack < occupancy network i link)
      → ((i before k : ℕ) → i < stream_count network → before < hop_count network i → k < hop_count network i
      → Continues network (route_of network i) before k → route_link network i k ≡ link
      → slack < hop_delay network i (route_link network i before)) → ToleratesOn network offsets link slack
  unfolding length_of
  short_tolerated link slack short after = record {
    spaced = spaced_by link (λ passage. slack) (λ cycles first second first_passage second_passage first_link second_link.
        subst (λ l. slack < occupancy network first.stream l) (sym first_link)
        (short first.stream (subst (UsesLink network first.stream) first_link (uses network formed offsets valid cycles first first_passage))));
    after_start = after;
  }

  pub short_lead_tolerated : (slack : ℕ → ℕ) (lead : Passage → ℕ)
      → ((cycles i : ℕ) (passage : Passage) → IsPassage network cycles passage → UsesLink network i (link_of network passage)
      → readiness network slack lead passage < occupancy network i (link_of network passage))
      → ((i before k : ℕ) → i < stream_count network → before < hop_count network i → k < hop_count network i
      → Continues network (route_of network i) before k → slack (route_link network i k) < hop_delay network i (route_link network i before))
      → ToleratesLead network offsets slack lead
  unfolding length_of
  short_lead_tolerated slack lead short after = record {
    spaced = λ link. spaced_by link (readiness network slack lead) (λ cycles first second first_passage second_passage first_link second_link.
        subst (λ l. readiness network slack lead second < occupancy network first.stream l) (second_link ∙ sym first_link)
        (short cycles first.stream second second_passage
        (subst (UsesLink network first.stream) (first_link ∙ sym second_link) (uses network formed offsets valid cycles first first_passage))));
    after_start = after;
  }

-- every valid schedule tolerates the slack that its network asks for
pub slack_tolerated : (network : Network) → IsWellFormed network → (offsets : List ℕ) → IsValid network offsets → Tolerates network offsets (λ link. network.slack)
slack_tolerated network formed offsets valid link = record {
  spaced = λ cycles first second first_passage second_passage first_link second_link less.
      after_slack network formed offsets valid cycles first second first_passage second_passage (first_link ∙ sym second_link) less;
  after_start = λ i before k counted before_within within continues same. formed.after_start i before k counted before_within within continues;
}

-- ---- leads

-- a passage that starts before its lead would meet the closed gate; or it is ready in the other's turn
pub closed_hold : (network : Network) (offsets : List ℕ) (gates : List LinkGates) (slack : ℕ → ℕ) (lead : Passage → ℕ)
    → ToleratesLead network offsets slack lead
    → ((cycles : ℕ) (passage : Passage) → IsPassage network cycles passage
    → ((readiness network slack lead passage ≤ lead passage + length_of network passage)
    × ((t : ℕ) → t + lead passage + 1 ≡ planned network offsets passage → ¬ ScheduledOpen gates (link_of network passage) t))
    ⊎ ((other : Passage) × IsPassage network cycles other × (link_of network other ≡ link_of network passage) ×
    (planned network offsets other < planned network offsets passage)
    × (planned network offsets other + length_of network other ≡ planned network offsets passage) × (lead other ≤ lead passage)))
    → HoldsTo network offsets gates slack lead
closed_hold network offsets gates slack lead tolerates held cycles p t passage by_ready too_early fits = elim (held cycles p passage) [
  | inl here ↦
      absurd (here.1 (planned network offsets p - lead p - 1) (omega arith)
      (fits (planned network offsets p - lead p - 1) (omega arith) (omega (arith, here.0))))
  | inr next ↦
      let apart = tolerates.spaced (link_of network p) cycles next.0 p next.1 passage next.2 refl next.3 in
      (next.0, next.1, next.2, omega arith, omega (arith, next.4, next.5))
]

-- the same where links have failed
pub closed_hold_without : (network : Network) (offsets : List ℕ) (gates : List LinkGates) (failed : List ℕ) (slack : ℕ → ℕ) (lead : Passage → ℕ)
    → ToleratesLead network offsets slack lead
    → ((cycles : ℕ) (passage : Passage) → IsPassage network cycles passage
    → ((readiness network slack lead passage ≤ lead passage + length_of network passage)
    × ((t : ℕ) → t + lead passage + 1 ≡ planned network offsets passage → ¬ ScheduledOpen gates (link_of network passage) t))
    ⊎ ((other : Passage) × IsPassage network cycles other × IsIntact failed network (route_of network other.stream) other.hop
    × (link_of network other ≡ link_of network passage) × (planned network offsets other < planned network offsets passage)
    × (planned network offsets other + length_of network other ≡ planned network offsets passage) × (lead other ≤ lead passage)))
    → HoldsToWithout failed network offsets gates slack lead
closed_hold_without network offsets gates failed slack lead tolerates held cycles p t passage by_ready too_early fits = elim (held cycles p passage) [
  | inl here ↦
      absurd (here.1 (planned network offsets p - lead p - 1) (omega arith)
      (fits (planned network offsets p - lead p - 1) (omega arith) (omega (arith, here.0))))
  | inr next ↦
      let apart = tolerates.spaced (link_of network p) cycles next.0 p next.1 passage next.3 refl next.4 in
      (next.0, next.1, next.2, next.3, omega arith, omega (arith, next.5, next.6))
]

-- ---- sums of slacks

module _ (network : Network) (formed : IsWellFormed network) (slack : ℕ → ℕ) where
  -- more links than there are on the way add nothing
  back_enough : (count other : ℕ) (p : Passage) → IsRoute network (route_of network p.stream) → p.hop < hop_count network p.stream → p.hop < count
      → p.hop < other
      → slacks_back network slack count p ≡ slacks_back network slack other p
  unfolding slacks_back
  back_enough zero other p route below short other_short = absurd (omega arith)
  back_enough (suc count) zero p route below short other_short = absurd (omega arith)
  back_enough (suc count) (suc other) p route below short other_short = elim (follow_cases network (route_of network p.stream) route p.hop below) [
    | inl sent ↦
        readiness_sent network slack (slacks_back network slack count) p route sent
        ∙ sym (readiness_sent network slack (slacks_back network slack other) p route sent)
    | inr (before, less, continues) ↦
        let one = readiness_continues network slack (slacks_back network slack count) p route before (omega arith) below continues in
        let two = readiness_continues network slack (slacks_back network slack other) p route before (omega arith) below continues in
        let same = back_enough count other (record p { hop = before }) route (omega arith) (omega arith) (omega arith) in
        omega arith
  ]

  sum_is : (p : Passage) → slack_sum network slack p ≡ readiness network slack (slacks_back network slack p.hop) p
  unfolding slack_sum slacks_back
  sum_is p = let count : p.hop + 1 ≡ suc p.hop = omega arith in ap (λ n. slacks_back network slack n p) count

  pub sum_sent : (cycles : ℕ) (p : Passage) → IsPassage network cycles p → IsSent network (route_of network p.stream) p.hop
      → slack_sum network slack p ≡ slack (link_of network p)
  sum_sent cycles p passage sent =
      sum_is p ∙ readiness_sent network slack (slacks_back network slack p.hop) p (route_formed network formed p.stream passage.stream) sent

  pub sum_continues : (cycles : ℕ) (p : Passage) → IsPassage network cycles p → (before : ℕ) → before < hop_count network p.stream
      → Continues network (route_of network p.stream) before p.hop
      → slack_sum network slack p ≡ slack_sum network slack (record p { hop = before }) + slack (link_of network p)
  unfolding slack_sum
  sum_continues cycles p passage before below continues =
      let route = route_formed network formed p.stream passage.stream in
      let is = sum_is p in
      let order = continues-before network (route_of network p.stream) route before p.hop below passage.hop continues in
      let more = readiness_continues network slack (slacks_back network slack p.hop) p route before below passage.hop continues in
      let same = back_enough p.hop (before + 1) (record p { hop = before }) route below order (omega arith) in
      omega arith

  -- where frames start early by the sums so far, they are ready so
  pub readiness_sum : (cycles : ℕ) (p : Passage) → IsPassage network cycles p → readiness network slack (slack_sum network slack) p ≡ slack_sum network slack p
  readiness_sum cycles p passage =
      let route = route_formed network formed p.stream passage.stream in
      elim (follow_cases network (route_of network p.stream) route p.hop passage.hop) [
        | inl sent ↦ readiness_sent network slack (slack_sum network slack) p route sent ∙ sym (sum_sent cycles p passage sent)
        | inr (before, less, continues) ↦
            let below : before < hop_count network p.stream = omega (arith, passage.hop) in
            readiness_continues network slack (slack_sum network slack) p route before below passage.hop continues
            ∙ sym (sum_continues cycles p passage before below continues)
      ]

  pub sums_hold : (offsets : List ℕ) (gates : List LinkGates) → HoldsTo network offsets gates slack (slack_sum network slack)
  sums_hold offsets gates cycles p t passage by_ready too_early fits = let same = readiness_sum cycles p passage in absurd (omega arith)

  pub sums_hold_without : (offsets : List ℕ) (gates : List LinkGates) (failed : List ℕ)
      → HoldsToWithout failed network offsets gates slack (slack_sum network slack)
  sums_hold_without offsets gates failed cycles p t passage by_ready too_early fits = let same = readiness_sum cycles p passage in absurd (omega arith)

-- ---- runs in which no frame is early

pub none_tolerated : (network : Network) → IsWellFormed network → (offsets : List ℕ) → Tolerates network offsets (λ link. 0)
none_tolerated network formed offsets link = record {
  spaced = λ cycles first second first_passage second_passage first_link second_link less. omega arith;
  after_start = λ i before k counted before_within within continues same. hop_delay-pos network formed i counted before before_within;
}

pub none_hold : (network : Network) (offsets : List ℕ) (gates : List LinkGates) → HoldsTo network offsets gates (λ link. 0) (λ passage. 0)
none_hold network offsets gates cycles p t passage by_ready too_early fits = let none = no_lead network (λ link. 0) p in absurd (omega arith)

pub none_hold_without : (network : Network) (offsets : List ℕ) (gates : List LinkGates) (failed : List ℕ)
    → HoldsToWithout failed network offsets gates (λ link. 0) (λ passage. 0)
none_hold_without network offsets gates failed cycles p t passage by_ready too_early fits = let none = no_lead network (λ link. 0) p in absurd (omega arith)

pub none_led : (network : Network) → IsWellFormed network → (offsets : List ℕ) → ToleratesLead network offsets (λ link. 0) (λ passage. 0)
none_led network formed offsets = no_lead_tolerated network offsets (λ link. 0) (none_tolerated network formed offsets)

choose : {A B : Type 0} → A ⊎ B → ℕ → ℕ → ℕ
choose (inl a) x y = x
choose (inr b) x y = y

chosen : {A B : Type 0} (c : A ⊎ B) (x y z : ℕ) → (A → x ≡ z) → (B → y ≡ z) → choose c x y ≡ z
unfolding choose
chosen (inl a) x y z first second = first a
chosen (inr b) x y z first second = second b

-- when a passage started
start_in : List ScheduledStart → Passage → ℕ
start_in [] p = 0
start_in (first ∷ starts) p = choose (passage_cases first.passage p) first.time (start_in starts p)

start_is : (starts : List ScheduledStart) (p : Passage) (s : ℕ) → ((t : ℕ) → Contains starts (record { passage = p; time = t }) → t ≡ s)
    → Contains starts (record { passage = p; time = s }) → start_in starts p ≡ s
unfolding start_in
start_is [] p s once has = absurd (Contains-nil _ has)
start_is (first ∷ starts) p s once has = chosen (passage_cases first.passage p) first.time (start_in starts p) s
    (λ same. once first.time (subst (λ q. Contains (first ∷ starts) (record { passage = q; time = first.time })) same (Contains-head first starts)))
    (λ differ. elim (Contains-cons_cases first starts _ has) [
      | inl same ↦ absurd (differ (ap (λ (x : ScheduledStart). x.passage) same))
      | inr later ↦ start_is starts p s (λ t t_has. once t (Contains-more first starts _ t_has)) later
    ])

module _ (network : Network) (formed : IsWellFormed network) (offsets : List ℕ) (gates : List LinkGates) (cycles : ℕ) (failed : List ℕ) (run : BridgeRun)
    (is : IsBridgeRunWithout failed network offsets gates cycles run) where
  -- when a passage is ready that continues the link of that place, or is sent where there is none
  ready_past : ℕ → Passage → ℕ
  ready_past before p =
      if nat_lt before (hop_count network p.stream) then start_in run.scheduled (record p { hop = before }) + hop_delay network p.stream
      (route_link network p.stream before) else p.cycle * network.cycle + offset_of offsets p.stream + p.shift

  exact_ready : Passage → ℕ
  exact_ready p = ready_past (place_before network (route_of network p.stream) p.hop) p

  exact_is : (p : Passage) (due : ℕ) → IsPassage network cycles p → IsReady network offsets run p due → exact_ready p ≡ due
  unfolding exact_ready ready_past
  exact_is p due passage (inl (sent, at)) =
      ap (λ k. ready_past k p) (before_none network (route_of network p.stream) (route_formed network formed p.stream passage.stream) p.hop sent)
      ∙ (cond-false (nat_lt (hop_count network p.stream) (hop_count network p.stream)) _ _ (le-ltb _ _ (omega arith)) ∙ sym at)
  exact_is p due passage (inr (before, s, continues, at, due_is)) =
      let below : before < hop_count network p.stream = (All-contains (λ (begun : ScheduledStart). IsPassage network cycles begun.passage) run.scheduled _
      is.passages at).hop in
      let begun = start_is run.scheduled (record p { hop = before }) s (λ t t_at. is.once (record p { hop = before }) t s t_at at) at in
      ap (λ k. ready_past k p)
      (before_is network (route_of network p.stream) (route_formed network formed p.stream passage.stream) before p.hop below passage.hop continues)
      ∙ (cond-true (nat_lt before (hop_count network p.stream)) _ _ (lt-ltb _ _ below)
      ∙ (ap (λ t. t + hop_delay network p.stream (route_link network p.stream before)) begun ∙ sym due_is))

  -- what blocks a frame delays it
  delayed_too : (p : Passage) (due t : ℕ) → IsPassage network cycles p → IsReady network offsets run p due → IsBlocked network offsets gates cycles run p due t
      → IsDelayed network offsets gates cycles exact_ready run p t
  delayed_too p due t passage p_ready (inl closed) = inl closed
  delayed_too p due t passage p_ready (inr (inl wire)) = inr (inl wire)
  delayed_too p due t passage p_ready (inr (inr (q, q_due, q_passage, queued, not_before))) =
      let p_is = exact_is p due passage p_ready in
      let q_is = exact_is q q_due q_passage queued.ready in
      let differ : q ≡ p → ⊥ = λ same. elim queued.order [
        | inl sooner ↦ let one : exact_ready q ≡ exact_ready p = ap exact_ready same in omega arith
        | inr (at_once, less) ↦ let one : q.stream ≡ p.stream = ap (λ (r : Passage). r.stream) same in omega arith
      ] in
      let order : exact_ready q ≤ exact_ready p = elim queued.order [
        | inl sooner ↦ omega arith
        | inr (at_once, less) ↦ omega arith
      ] in
      inr (inr (q, q_due, q_passage, differ, queued.same_link, queued.ready, order, not_before))

  pub exact_run_without : (ready : Passage → ℕ) × IsEarlyRunWithout failed network offsets gates cycles (λ link. 0) ready run
  exact_run_without = (
    exact_ready,
    record {
      wires_shared = is.wires_shared;
      uses_begin = is.uses_begin;
      background_length = is.background_length;
      background_open = is.background_open;
      passages = is.passages;
      silent = is.silent;
      once = is.once;
      early = λ p due passage p_ready. let same = exact_is p due passage p_ready in (omega arith, omega arith);
      begun_ready = λ k d below.
          let old = is.ready k d below in
          let same = exact_is (get_or run.scheduled k d).passage old.0 (is.passages k d below) old.1 in
          (old.0, old.1, omega (arith, old.2));
      fits = is.fits;
      waits = λ p due t passage whole p_ready late below none.
          let same = exact_is p due passage p_ready in
          delayed_too p due t passage p_ready (is.waits p due t passage whole p_ready (omega arith) below none);
    },
  )

pub without_none : (network : Network) (offsets : List ℕ) (gates : List LinkGates) (cycles : ℕ) (run : BridgeRun)
    → IsBridgeRun network offsets gates cycles run → IsBridgeRunWithout [] network offsets gates cycles run
without_none network offsets gates cycles run is = record {
  wires_shared = is.wires_shared;
  uses_begin = is.uses_begin;
  background_length = is.background_length;
  background_open = is.background_open;
  passages = is.passages;
  silent = λ k d below failed. Contains-nil _ failed;
  once = is.once;
  ready = is.ready;
  fits = is.fits;
  waits = λ passage ready t is_passage whole is_ready after before not_started. is.waits passage ready t is_passage is_ready after before not_started;
}

pub exact_run : (network : Network) → IsWellFormed network → (offsets : List ℕ) (gates : List LinkGates) (cycles : ℕ) (run : BridgeRun)
    → IsBridgeRun network offsets gates cycles run → (ready : Passage → ℕ) × IsEarlyRun network offsets gates cycles (λ link. 0) ready run
exact_run network formed offsets gates cycles run is =
    exact_run_without network formed offsets gates cycles [] run (without_none network offsets gates cycles run is)

-- each frame with a whole way
pub starts_intact : (network : Network) → IsWellFormed network → (offsets : List ℕ) → IsValid network offsets → (gates : List LinkGates)
    → KeepsWantedGates network offsets gates
    → (cycles : ℕ) (failed : List ℕ) (run : BridgeRun) → IsBridgeRunWithout failed network offsets gates cycles run
    → (p : Passage) → IsPassage network cycles p → IsIntact failed network (route_of network p.stream) p.hop → StartedAt run p (planned network offsets p)
starts_intact network formed offsets valid gates has cycles failed run is p passage intact =
    let exact = exact_run_without network formed offsets gates cycles failed run is in
    let found = intact_in_time network formed offsets valid cycles gates has failed (λ link. 0) exact.0 run exact.1 (λ passage. 0)
    (none_hold_without network offsets gates failed) (none_led network formed offsets) p passage intact in
    let same : found.0 ≡ planned network offsets p = omega (arith, found.2, found.3) in
    subst (StartedAt run p) same found.1

pub starts_on_time : (network : Network) → IsWellFormed network → (offsets : List ℕ) → IsValid network offsets → (gates : List LinkGates)
    → KeepsWantedGates network offsets gates
    → (cycles : ℕ) (run : BridgeRun) → IsBridgeRun network offsets gates cycles run → StartsOnTime network offsets cycles run
starts_on_time network formed offsets valid gates has cycles run is p passage =
    starts_intact network formed offsets valid gates has cycles [] run (without_none network offsets gates cycles run is) p passage
    (all_intact network formed offsets valid cycles p passage)

-- where frames may be ready early, by the gates that the schedule asks for
pub early_starts_on_time : (network : Network) → IsWellFormed network → (offsets : List ℕ) → IsValid network offsets → (gates : List LinkGates)
    → HasWantedGates network offsets gates
    → (slack : ℕ → ℕ) → Tolerates network offsets slack → (cycles : ℕ) (ready : Passage → ℕ) (run : BridgeRun)
    → IsEarlyRun network offsets gates cycles slack ready run
    → StartsOnTime network offsets cycles run
early_starts_on_time network formed offsets valid gates wanted slack tolerates cycles ready run is p passage =
    let found = starts_in_time network formed offsets valid cycles gates (wanted_kept network offsets gates wanted) slack ready run is (λ passage. 0)
    (wanted_hold network formed offsets valid gates wanted slack) (no_lead_tolerated network offsets slack tolerates) p passage in
    let same : found.0 ≡ planned network offsets p = omega (arith, found.2, found.3) in
    subst (StartedAt run p) same found.1
