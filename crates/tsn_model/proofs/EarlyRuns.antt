-- In a run by gates of a valid schedule no scheduled frame is late, though frames may be ready early, and none is earlier than its lead.
use Rattle.std.proofs.Common.{◌≡◌, ℕ, zero, suc, ◌+◌, ◌-◌, ◌*◌, ◌%◌, ◌≤◌, ◌<◌, ◌⊎◌, List, [], ◌∷◌, map, length, get_or, Contains, IsBitSet, bit_and, refl, sym, ap, ◌∙◌, subst, arith, inl, inr, mul-le-mul, add-mul, ◌/◌, ◌==◌, suc-ne-zero, eq-eqb, ne_eqb, Bool, true, false, if◌then◌else◌, nat_lt, lt-ltb, le-ltb}
use Rattle.std.specs.List.{range_with_len}
use Rattle.std.proofs.lemmas.List.Sums.{position_or_len_is}
use Rattle.std.proofs.lemmas.Nat.{mod-mul-add}
use Rattle.std.proofs.Math.Nat.{mod-add-div'}
use Rattle.std.proofs.lemmas.Bool.{cases_lt, cases_eq, cond-true, cond-false}
use Rattle.std.proofs.lemmas.List.Elements.{All-nil, All-cons, All-contains, Contains-append_left, Contains-append_cases}
use Rattle.tsn_model.specs.Network.{Network, IsWellFormed, IsRoute, route_of, hop_count, route_link, link_at, from_at, IsSent, Continues}
use Rattle.tsn_model.specs.Timing.{occupancy, separation, hop_delay, Sends, start, UsesLink}
use Rattle.tsn_model.specs.Schedule.{IsValid, offset_of, FrameOccupies, FrameKeeps, Occupies, Keeps}
use Rattle.tsn_model.specs.Gates.{IsOctetAt, InWindow, InGuard, IsWanted, guard_of}
use Rattle.tsn_model.specs.Bridge.{LinkGates, BackgroundOpen, Passage, ScheduledStart, BackgroundStart, BridgeRun, WireUse, AreDisjoint, link_of, length_of, scheduled_use, background_use, wire_uses, IsPassage, StartedAt, NotStartedBefore, IsReady, FitsAt, HasWantedGates, planned}
use Rattle.tsn_model.specs.Kept.{IsKept, KeepsWantedGates}
use Rattle.tsn_model.specs.Early.{IsDelayed, IsEarlyRunWithout, IsEarlyRun, Tolerates, place_before, readiness, HoldsTo, HoldsToWithout, ToleratesLead, StartsInTime}
use Rattle.tsn_model.specs.Failures.{IsIntact}
use Rattle.tsn_model.proofs.Lists.{Contains-range, Contains-cons_cases, Contains-nil, Contains-head, Contains-more, Contains-map, from_map, pair_of}
use Rattle.tsn_model.proofs.Branches.{follow_cases, continued_once, sent_alone, continues-before}
use Rattle.tsn_model.proofs.Starts.{start-sent, start-continues}
use Rattle.tsn_model.proofs.Routes.{use_of, UsesLink-counted, occupancy-pos, occupancy-le-separation, slack-lt-separation, separation-pos, keeping-le-cycle, frames_apart}
use Rattle.tsn_model.proofs.Hops.{route_formed, passage_cases, started_cases, cycle_below, same_cycle, hop_uses, hop_start, hop_once, hop_delay-pos}

-- ---- the link that a link continues

module _ (network : Network) (route : List ℕ) (is : IsRoute network route) where
  pub before_none : (k : ℕ) → IsSent network route k → place_before network route k ≡ length route
  unfolding place_before
  before_none k sent = position_or_len_is (λ link. (link_at network link).to == from_at network route k) route (length route) 0 (omega arith)
      (λ j below. ne_eqb _ _ (λ continues. sent_alone network route is j k below continues sent)) (λ within. absurd (omega arith))

  pub before_is : (j k : ℕ) → j < length route → k < length route → Continues network route j k → place_before network route k ≡ j
  unfolding place_before
  before_is j k j_below below continues = position_or_len_is (λ link. (link_at network link).to == from_at network route k) route j 0 (omega arith)
      (λ other earlier. ne_eqb _ _ (λ too.
      let same = continued_once network route is other j k (omega arith) j_below below too continues in omega arith)) (λ within. eq-eqb _ _ continues)

-- ---- how early passages may be ready

module _ (network : Network) (slack : ℕ → ℕ) (lead : Passage → ℕ) (p : Passage) (route : IsRoute network (route_of network p.stream)) where
  pub readiness_sent : IsSent network (route_of network p.stream) p.hop → readiness network slack lead p ≡ slack (link_of network p)
  unfolding readiness
  readiness_sent sent =
      let place = before_none network (route_of network p.stream) route p.hop sent in
      let none = cond-false (nat_lt (place_before network (route_of network p.stream) p.hop) (hop_count network p.stream))
      (lead (record p { hop = place_before network (route_of network p.stream) p.hop })) 0 (le-ltb _ _ (omega arith)) in
      omega arith

  pub readiness_continues : (before : ℕ) → before < hop_count network p.stream → p.hop < hop_count network p.stream
      → Continues network (route_of network p.stream) before p.hop
      → readiness network slack lead p ≡ lead (record p { hop = before }) + slack (link_of network p)
  unfolding readiness
  readiness_continues before before_below below continues =
      let place = before_is network (route_of network p.stream) route before p.hop before_below below continues in
      let some = cond-true (nat_lt (place_before network (route_of network p.stream) p.hop) (hop_count network p.stream))
      (lead (record p { hop = place_before network (route_of network p.stream) p.hop })) 0 (lt-ltb _ _ (omega arith)) in
      let same : lead (record p { hop = place_before network (route_of network p.stream) p.hop }) ≡ lead (record p { hop = before }) =
      ap (λ h. lead (record p { hop = h })) place in
      omega arith

either_same : (b : Bool) (n : ℕ) → (if b then n else n) ≡ n
either_same true n = refl
either_same false n = refl

-- without a lead a passage is ready early by its own slack alone
pub no_lead : (network : Network) (slack : ℕ → ℕ) (p : Passage) → readiness network slack (λ passage. 0) p ≡ slack (link_of network p)
unfolding readiness
no_lead network slack p =
    let none = either_same (nat_lt (place_before network (route_of network p.stream) p.hop) (hop_count network p.stream)) 0 in
    omega arith

-- ---- passages and their planned windows

module _ (network : Network) (formed : IsWellFormed network) (offsets : List ℕ) (valid : IsValid network offsets) (cycles : ℕ) where
  -- when a passage starts, counted from its cycle's start
  abbrev phase_of : Passage → ℕ
  phase_of p = offset_of offsets p.stream + p.shift + start network p.stream p.hop

  planned_is : (p : Passage) → planned network offsets p ≡ p.cycle * network.cycle + phase_of p
  unfolding planned
  planned_is p = omega arith

  -- how long it keeps its link: as long as its window at least, and within the cycle
  abbrev kept_for : Passage → ℕ
  kept_for p = separation network p.stream (link_of network p)

  length-le-kept : (p : Passage) → length_of network p ≤ kept_for p
  unfolding length_of
  length-le-kept p = occupancy-le-separation network p.stream (link_of network p)

  keeping_ends : (p : Passage) → IsPassage network cycles p → phase_of p + kept_for p ≤ network.cycle
  unfolding link_of
  keeping_ends p passage =
      let at = hop_start network formed p.stream passage.stream p.hop passage.hop in
      let ends = keeping-le-cycle network offsets p.stream p.shift (route_link network p.stream p.hop) valid passage.sent
      (hop_uses network formed p.stream passage.stream p.hop passage.hop) in
      omega (arith, at, ends)

  -- its window ends within the cycle, and isn't empty
  window_ends : (p : Passage) → IsPassage network cycles p → phase_of p + length_of network p ≤ network.cycle
  window_ends p passage =
      let ends = keeping_ends p passage in
      let within = length-le-kept p in
      omega arith

  window_some : (p : Passage) → IsPassage network cycles p → 0 < length_of network p
  unfolding length_of link_of
  window_some p passage = occupancy-pos network p.stream (route_link network p.stream p.hop) formed
      (hop_uses network formed p.stream passage.stream p.hop passage.hop)

  pub uses : (p : Passage) → IsPassage network cycles p → UsesLink network p.stream (link_of network p)
  unfolding link_of
  uses p passage = hop_uses network formed p.stream passage.stream p.hop passage.hop

  -- an instant of its window, in the cycle
  frame_occupies : (p : Passage) → IsPassage network cycles p → (w : ℕ) → phase_of p ≤ w → w < phase_of p + length_of network p
      → FrameOccupies network offsets p.stream p.shift (link_of network p) w
  unfolding length_of link_of
  frame_occupies p passage w begun ends =
      let at = hop_start network formed p.stream passage.stream p.hop passage.hop in
      record { begun = omega arith; not_ended = omega arith }

  occupies : (p : Passage) → IsPassage network cycles p → (w : ℕ) → phase_of p ≤ w → w < phase_of p + length_of network p
      → Occupies network offsets p.stream (link_of network p) w
  occupies p passage w begun ends = record { shift = p.shift; sent = passage.sent; frame = frame_occupies p passage w begun ends }

  -- and one at which it keeps its link
  frame_keeps : (p : Passage) → IsPassage network cycles p → (w : ℕ) → phase_of p ≤ w → w < phase_of p + kept_for p
      → FrameKeeps network offsets p.stream p.shift (link_of network p) w
  unfolding link_of
  frame_keeps p passage w begun ends =
      let at = hop_start network formed p.stream passage.stream p.hop passage.hop in
      record { begun = omega arith; not_ended = omega arith }

  keeps : (p : Passage) → IsPassage network cycles p → (w : ℕ) → phase_of p ≤ w → w < phase_of p + kept_for p
      → Keeps network offsets p.stream (link_of network p) w
  keeps p passage w begun ends = record { shift = p.shift; sent = passage.sent; frame = frame_keeps p passage w begun ends }

  -- what is planned for a hop is what is planned for the hop that it continues, and its delay
  planned_next : (p : Passage) (before : ℕ) → IsPassage network cycles p → before < hop_count network p.stream
      → Continues network (route_of network p.stream) before p.hop
      → planned network offsets p ≡ planned network offsets (record p { hop = before }) + hop_delay network p.stream (route_link network p.stream before)
  unfolding planned
  planned_next p before passage below continues =
      let more = start-continues network p.stream (route_formed network formed p.stream passage.stream) before p.hop below passage.hop continues in
      omega arith

  planned_first : (p : Passage) → IsPassage network cycles p → IsSent network (route_of network p.stream) p.hop
      → planned network offsets p ≡ p.cycle * network.cycle + offset_of offsets p.stream + p.shift
  unfolding planned
  planned_first p passage sent =
      let none = start-sent network p.stream (route_formed network formed p.stream passage.stream) p.hop sent in
      omega arith

  -- the passage on the link that it continues
  passage_before : (p : Passage) (before : ℕ) → IsPassage network cycles p → before < hop_count network p.stream
      → IsPassage network cycles (record p { hop = before })
  passage_before p before passage below = record { stream = passage.stream; sent = passage.sent; cycle = passage.cycle; hop = below }

  in_run : (p : Passage) → IsPassage network cycles p → planned network offsets p < cycles * network.cycle
  in_run p passage =
      let plan = planned_is p in
      let fits = window_ends p passage in
      let some = window_some p passage in
      let gap = cycle_below p.cycle cycles network.cycle passage.cycle in
      omega arith

  -- ---- windows of one link

  in_window : (p : Passage) → IsPassage network cycles p → (u : ℕ) → planned network offsets p ≤ u → u < planned network offsets p + length_of network p
      → InWindow network offsets (link_of network p) (u % network.cycle)
  in_window p passage u begun ends =
      let plan = planned_is p in
      let fits = window_ends p passage in
      let w = u - p.cycle * network.cycle in
      let at : u ≡ p.cycle * network.cycle + (u - p.cycle * network.cycle) = omega arith in
      let remainder : (p.cycle * network.cycle +
      (u - p.cycle * network.cycle)) % network.cycle ≡ u - p.cycle * network.cycle = mod-mul-add p.cycle network.cycle (u - p.cycle * network.cycle)
      (omega arith) in
      let here : u % network.cycle ≡ u - p.cycle * network.cycle = ap (λ v. v % network.cycle) at ∙ remainder in (
        p.stream,
        uses p passage,
        subst (Occupies network offsets p.stream (link_of network p)) (sym here)
            (occupies p passage (u - p.cycle * network.cycle) (omega arith) (omega arith)),
      )

  -- an instant at which two passages keep one link is in one cycle
  one_cycle : (p q : Passage) → IsPassage network cycles p → IsPassage network cycles q → (u : ℕ)
      → planned network offsets p ≤ u → u < planned network offsets p + kept_for p → planned network offsets q ≤ u
      → u < planned network offsets q + kept_for q
      → p.cycle ≡ q.cycle
  one_cycle p q p_passage q_passage u p_begun p_ends q_begun q_ends =
      let p_plan = planned_is p in
      let q_plan = planned_is q in
      let p_fits = keeping_ends p p_passage in
      let q_fits = keeping_ends q q_passage in
      same_cycle p.cycle q.cycle network.cycle (u - p.cycle * network.cycle) (u - q.cycle * network.cycle) (omega arith) (omega arith) (omega arith)

  hop_link : (p q : Passage) → p.stream ≡ q.stream → link_of network p ≡ link_of network q
      → route_link network q.stream p.hop ≡ route_link network q.stream q.hop
  unfolding link_of
  hop_link p q stream same = ap (λ i. route_link network i p.hop) (sym stream) ∙ same

  -- two passages keep one link at no common instant
  same_keeping : (p q : Passage) → IsPassage network cycles p → IsPassage network cycles q → link_of network p ≡ link_of network q → (u : ℕ)
      → planned network offsets p ≤ u → u < planned network offsets p + kept_for p → planned network offsets q ≤ u
      → u < planned network offsets q + kept_for q
      → p ≡ q
  same_keeping p q p_passage q_passage link u p_begun p_ends q_begun q_ends =
      let cycle = one_cycle p q p_passage q_passage u p_begun p_ends q_begun q_ends in
      let p_plan = planned_is p in
      let q_plan = planned_is q in
      let p_fits = keeping_ends p p_passage in
      let q_fits = keeping_ends q q_passage in
      let begins : p.cycle * network.cycle ≡ q.cycle * network.cycle = ap (λ c. c * network.cycle) cycle in
      elim (cases_eq p.stream q.stream) [
        | inl stream ↦
            let in_stream : route_link network q.stream p.hop ≡ route_link network q.stream q.hop = hop_link p q stream link in
            let hop_below : p.hop < hop_count network q.stream = subst (λ i. p.hop < hop_count network i) stream p_passage.hop in
            let hop = hop_once network formed q.stream q_passage.stream p.hop q.hop hop_below q_passage.hop in_stream in
            elim (cases_eq p.shift q.shift) [
              | inl shift ↦ (λ i. record { stream = stream i; shift = shift i; cycle = cycle i; hop = hop i })
              | inr differ ↦
                  absurd (frames_apart network offsets q.stream p.shift q.shift (link_of network q) valid (uses q q_passage)
                  (subst (λ i. Sends network i p.shift) stream p_passage.sent) q_passage.sent differ (u - p.cycle * network.cycle)
                  (subst (λ l. FrameKeeps network offsets q.stream p.shift l (u - p.cycle * network.cycle)) link
                  (subst (λ i. FrameKeeps network offsets i p.shift (link_of network p) (u - p.cycle * network.cycle)) stream
                  (frame_keeps p p_passage (u - p.cycle * network.cycle) (omega arith) (omega arith))))
                  (frame_keeps q q_passage (u - p.cycle * network.cycle) (omega arith) (omega arith)))
            ]
        | inr differ ↦
            absurd (valid.disjoint p.stream q.stream (link_of network p) (u - p.cycle * network.cycle) differ (uses p p_passage)
            (subst (UsesLink network q.stream) (sym link) (uses q q_passage))
            (keeps p p_passage (u - p.cycle * network.cycle) (omega arith) (omega arith))
            (subst (λ l. Keeps network offsets q.stream l (u - p.cycle * network.cycle)) (sym link)
            (keeps q q_passage (u - p.cycle * network.cycle) (omega arith) (omega arith))))
      ]

  -- of two passages of one link that differ the one that isn't planned sooner is planned after the other has kept it
  after_keeping : (p q : Passage) → IsPassage network cycles p → IsPassage network cycles q → link_of network p ≡ link_of network q → (p ≡ q → ⊥)
      → planned network offsets p ≤ planned network offsets q → planned network offsets p + kept_for p ≤ planned network offsets q
  after_keeping p q p_passage q_passage link differ order =
      let some = separation-pos network q.stream (link_of network q) in
      elim (cases_lt (planned network offsets q) (planned network offsets p + kept_for p)) [
        | inl within ↦ absurd (differ (same_keeping p q p_passage q_passage link (planned network offsets q) order within (omega arith) (omega arith)))
        | inr past ↦ past
      ]

  -- so after its window, and by more than the slack
  pub after_window : (p q : Passage) → IsPassage network cycles p → IsPassage network cycles q → link_of network p ≡ link_of network q → (p ≡ q → ⊥)
      → planned network offsets p ≤ planned network offsets q → planned network offsets p + length_of network p ≤ planned network offsets q
  after_window p q p_passage q_passage link differ order =
      let past = after_keeping p q p_passage q_passage link differ order in
      let within = length-le-kept p in
      omega arith

  pub after_slack : (p q : Passage) → IsPassage network cycles p → IsPassage network cycles q → link_of network p ≡ link_of network q
      → planned network offsets p < planned network offsets q → planned network offsets p + network.slack < planned network offsets q
  after_slack p q p_passage q_passage link sooner =
      let past = after_keeping p q p_passage q_passage link
      (λ same. let one : planned network offsets p ≡ planned network offsets q = ap (planned network offsets) same in omega arith) (omega arith) in
      let within = slack-lt-separation network p.stream (link_of network p) in
      omega arith

  -- a passage whose window an instant of the run is in
  record Owner (link u : ℕ) : Type 0 where
    passage : Passage
    is : IsPassage network cycles passage
    same_link : link_of network passage ≡ link
    begun : planned network offsets passage ≤ u
    not_ended : u < planned network offsets passage + length_of network passage

  owner_of : (link u : ℕ) → u < cycles * network.cycle → InWindow network offsets link (u % network.cycle) → Owner link u
  unfolding planned length_of link_of
  owner_of link u below (i, i_uses, occupied) =
      let used = use_of network i link i_uses in
      let split : u % network.cycle + u / network.cycle * network.cycle ≡ u = mod-add-div' u network.cycle in
      let in_cycles : u / network.cycle < cycles = elim (cases_lt (u / network.cycle) cycles) [
        | inl less ↦ less
        | inr more ↦
            let same : network.cycle ≤ network.cycle = omega arith in
            let gap : cycles * network.cycle ≤ u / network.cycle * network.cycle = mul-le-mul more same in
            absurd (omega arith)
      ] in
      let long : occupancy network i (route_link network i used.hop) ≡ occupancy network i link = ap (occupancy network i) used.same_link in
      let at = used.same_start in
      let begun = occupied.frame.begun in
      let not_ended = occupied.frame.not_ended in
      record {
        passage = record { stream = i; shift = occupied.shift; cycle = u / network.cycle; hop = used.hop };
        is = record { stream = UsesLink-counted network i link i_uses; sent = occupied.sent; cycle = in_cycles; hop = used.counted };
        same_link = used.same_link;
        begun = omega arith;
        not_ended = omega arith;
      }

  -- ---- gates

  open_in_window : (link t octet : ℕ) → InWindow network offsets link t → IsWanted network offsets link t octet → IsBitSet octet 7
  open_in_window link t octet window (inl (within, is_scheduled)) = subst (λ o. IsBitSet o 7) (sym is_scheduled) (λ never. suc-ne-zero _ never)
  open_in_window link t octet window (inr (inl (outside, guard, is_closed))) = absurd (outside window)
  open_in_window link t octet window (inr (inr (outside, free, is_background))) = absurd (outside window)

  window_open : (link t octet : ℕ) → IsBitSet octet 7 → IsWanted network offsets link t octet → InWindow network offsets link t
  window_open link t octet opened (inl (within, is_scheduled)) = within
  window_open link t octet opened (inr (inl (outside, guard, is_closed))) = absurd (subst (λ o. IsBitSet o 7) is_closed opened refl)
  window_open link t octet opened (inr (inr (outside, free, is_background))) = absurd (subst (λ o. IsBitSet o 7) is_background opened refl)

  -- each passage fits at its planned instant
  pub fits_planned : (gates : List LinkGates) → KeepsWantedGates network offsets gates → (p : Passage) → IsPassage network cycles p
      → FitsAt network gates p (planned network offsets p)
  fits_planned gates has p passage u begun ends =
      let window = in_window p passage u begun ends in
      let listed = has.listed p.stream (link_of network p) u (uses p passage) in (
        listed.0,
        listed.1,
        listed.2,
        listed.3,
        (
          listed.4.0,
          (
            listed.4.1.0,
            listed.4.1.1,
            listed.4.1.2.2.scheduled (open_in_window (link_of network p) (u % network.cycle) listed.4.1.2.0 window listed.4.1.2.1),
          ),
        ),
      )

  closed_in : (link t octet : ℕ) → InWindow network offsets link t ⊎ InGuard network offsets link t → IsWanted network offsets link t octet
      → bit_and octet 127 ≡ 0
  closed_in link t octet held (inl (within, is_scheduled)) = ap (λ o. bit_and o 127) is_scheduled
  closed_in link t octet held (inr (inl (outside, guard, is_closed))) = ap (λ o. bit_and o 127) is_closed
  closed_in link t octet (inl window) (inr (inr (outside, free, is_background))) = absurd (outside window)
  closed_in link t octet (inr guard) (inr (inr (outside, free, is_background))) = absurd (free guard)

  -- an instant less than a guard's length before a planned start is in that start's guard
  guarded_before : (p : Passage) → IsPassage network cycles p → (u : ℕ) → u < planned network offsets p
      → planned network offsets p ≤ u + guard_of network (link_of network p)
      → InGuard network offsets (link_of network p) (u % network.cycle)
  unfolding link_of
  guarded_before p passage u before near =
      let plan = planned_is p in
      let fits = window_ends p passage in
      let some = window_some p passage in
      let at = hop_start network formed p.stream passage.stream p.hop passage.hop in
      let split : u % network.cycle + u / network.cycle * network.cycle ≡ u = mod-add-div' u network.cycle in
      let not_later : u / network.cycle ≤ p.cycle = elim (cases_lt p.cycle (u / network.cycle)) [
        | inl later ↦ let gap = cycle_below p.cycle (u / network.cycle) network.cycle later in absurd (omega arith)
        | inr in_time ↦ in_time
      ] in
      let cycles_are : p.cycle ≡ u / network.cycle + (p.cycle - u / network.cycle) = omega arith in
      let product : p.cycle * network.cycle ≡ u / network.cycle * network.cycle + (p.cycle - u / network.cycle) * network.cycle =
      ap (λ c. c * network.cycle) cycles_are ∙ add-mul (u / network.cycle) (p.cycle - u / network.cycle) network.cycle in
      record {
        stream = p.stream;
        shift = p.shift;
        sent = passage.sent;
        cycles = p.cycle - u / network.cycle;
        uses = uses p passage;
        not_begun = omega arith;
        guarded = omega arith;
      }

  -- ---- runs in which frames may be ready early, and links may have failed

  module _ (gates : List LinkGates) (has : KeepsWantedGates network offsets gates) (failed : List ℕ) (slack : ℕ → ℕ) (ready : Passage → ℕ) (run : BridgeRun)
      (is : IsEarlyRunWithout failed network offsets gates cycles slack ready run) where
    started_passage : (p : Passage) (s : ℕ) → StartedAt run p s → IsPassage network cycles p
    started_passage p s at = All-contains (λ (begun : ScheduledStart). IsPassage network cycles begun.passage) run.scheduled _ is.passages at

    no_background : (p : Passage) → IsPassage network cycles p → (begun : BackgroundStart) → Contains run.background begun → begun.link ≡ link_of network p
        → begun.time < planned network offsets p → planned network offsets p < begun.time + (begun.octets + 20) * (link_at network begun.link).octet_time → ⊥
    unfolding guard_of
    no_background p passage begun among same_link before still =
        let short = All-contains (λ (b : BackgroundStart). b.octets ≤ 1522) run.background begun is.background_length among in
        let opened = All-contains (λ (b : BackgroundStart). BackgroundOpen gates b.link b.time) run.background begun is.background_open among in
        let sum : begun.octets + 20 ≤ 1542 = omega arith in
        let same_rate : (link_at network begun.link).octet_time ≤ (link_at network begun.link).octet_time = omega arith in
        let product : (begun.octets + 20) * (link_at network begun.link).octet_time ≤ 1542 *
        (link_at network begun.link).octet_time = mul-le-mul sum same_rate in
        let near : planned network offsets p ≤ begun.time + guard_of network begun.link = omega arith in
        let guard = guarded_before p passage begun.time before (subst (λ l. planned network offsets p ≤ begun.time + guard_of network l) same_link near) in
        let item_link : (get_or gates opened.0 opened.1).link ≡ link_of network p = ap (λ (item : LinkGates). item.link) opened.3 ∙ (opened.4.0 ∙ same_link) in
        let used = subst (λ l. UsesLink network p.stream l) (sym item_link) (uses p passage) in
        let kept = has.kept opened.0 opened.1 opened.2 p.stream begun.time opened.4.1.0 used
        (subst (λ (item : LinkGates). IsOctetAt item.entries begun.time opened.4.1.0) (sym opened.3) opened.4.1.1) in
        let kept_here = subst (λ l. IsKept network offsets l (begun.time % network.cycle) opened.4.1.0) item_link kept in
        kept_here.2.others opened.4.1.2 (closed_in (link_of network p) (begun.time % network.cycle) kept_here.0 (inr guard) kept_here.1)

    -- what delays a passage at its planned instant: another one that has the wire there, or one that was ready no later and hasn't started
    delayed_by : (p : Passage) → IsPassage network cycles p → IsDelayed network offsets gates cycles ready run p (planned network offsets p)
        → ((q : Passage) (s : ℕ) → StartedAt run q s → link_of network q ≡ link_of network p → s < planned network offsets p
        → planned network offsets p < s + length_of network q → ⊥)
        → ((q : Passage) (due : ℕ) → IsPassage network cycles q → (q ≡ p → ⊥) → link_of network q ≡ link_of network p → IsReady network offsets run q due
        → ready q ≤ ready p
        → NotStartedBefore run q (planned network offsets p) → ⊥) → ⊥
    unfolding wire_uses scheduled_use background_use
    delayed_by p passage (inl closed) no_wire no_queue = closed (fits_planned gates has p passage)
    delayed_by p passage (inr (inl (k, wire, below, is_wire, (same_link, before, still)))) no_wire no_queue =
        elim (Contains-append_cases (map (scheduled_use network) run.scheduled) (map (background_use network) run.background) wire (k, below, is_wire)) [
          | inl scheduled ↦
              let found = from_map (scheduled_use network) run.scheduled wire scheduled in
              let link = ap (λ (w : WireUse). w.link) found.2 in
              let from = ap (λ (w : WireUse). w.from) found.2 in
              let until = ap (λ (w : WireUse). w.until) found.2 in
              no_wire found.0.passage found.0.time found.1 (link ∙ same_link) (omega arith) (omega arith)
          | inr background ↦
              let found = from_map (background_use network) run.background wire background in
              let link = ap (λ (w : WireUse). w.link) found.2 in
              let from = ap (λ (w : WireUse). w.from) found.2 in
              let until = ap (λ (w : WireUse). w.until) found.2 in
              no_background p passage found.0 found.1 (link ∙ same_link) (omega arith) (omega arith)
        ]
    delayed_by p passage (inr
        (inr (q, due, q_passage, differ, same_link, q_ready, order, not_before))) no_wire no_queue = no_queue q due q_passage differ same_link q_ready order not_before

    begins_in_run : (q : Passage) (s : ℕ) → StartedAt run q s → s < cycles * network.cycle
    unfolding wire_uses scheduled_use
    begins_in_run q s at =
        All-contains (λ (wire : WireUse). wire.from < cycles * network.cycle) (wire_uses network run) (scheduled_use network (record { passage = q; time = s }))
        is.uses_begin
        (Contains-append_left (map (scheduled_use network) run.scheduled) (map (background_use network) run.background)
        (scheduled_use network (record { passage = q; time = s }))
        (Contains-map (scheduled_use network) run.scheduled (record { passage = q; time = s }) at))

    begun_ready : (p : Passage) (s : ℕ) → StartedAt run p s → (due : ℕ) × IsReady network offsets run p due × (ready p ≤ s)
    begun_ready p s at =
        All-contains (λ (begun : ScheduledStart). (due : ℕ) × IsReady network offsets run begun.passage due × (ready begun.passage ≤ begun.time))
        run.scheduled _ is.begun_ready at

    fits_at : (p : Passage) (s : ℕ) → StartedAt run p s → FitsAt network gates p s
    fits_at p s at =
        All-contains (λ (begun : ScheduledStart). FitsAt network gates begun.passage begun.time) run.scheduled (record { passage = p; time = s }) is.fits at

    wires_differ : (a b : Passage) (s t : ℕ) → StartedAt run a s → StartedAt run b t → (a ≡ b → ⊥) → link_of network a ≡ link_of network b
        → (u : ℕ) → s ≤ u → u < s + length_of network a → t ≤ u → u < t + length_of network b → ⊥
    unfolding wire_uses scheduled_use
    wires_differ a b s t a_at b_at differ same_link u a_begun a_ends b_begun b_ends =
        elim (pair_of AreDisjoint (scheduled_use network) run.scheduled (map (background_use network) run.background)
        (record { passage = a; time = s }) (record { passage = b; time = t })
        is.wires_shared a_at b_at (λ same. differ (ap (λ (x : ScheduledStart). x.passage) same))) [
          | inl apart ↦ apart same_link u a_begun a_ends b_begun b_ends
          | inr apart ↦ apart (sym same_link) u b_begun b_ends a_begun a_ends
        ]

    -- a hop that started is one of the route
    started_hop : (p : Passage) (before s : ℕ) → StartedAt run (record p { hop = before }) s → before < hop_count network p.stream
    started_hop p before s at = (started_passage (record p { hop = before }) s at).hop

    -- ---- whole ways

    abbrev Intact : Passage → Type 0
    Intact p = IsIntact failed network (route_of network p.stream) p.hop

    not_failed : (p : Passage) → Intact p → Contains failed (link_of network p) → ⊥
    unfolding link_of
    not_failed p intact = All-contains (λ j. Contains failed (route_link network p.stream j) → ⊥) intact.way p.hop intact.whole intact.has

    before_intact : (p : Passage) (before : ℕ) → Intact p → before < hop_count network p.stream → Continues network (route_of network p.stream) before p.hop
        → Intact (record p { hop = before })
    before_intact p before intact below continues = record { way = intact.way; has = intact.closed before p.hop below intact.has continues; closed = intact.closed; whole = intact.whole }

    first_intact : (p : Passage) → IsPassage network cycles p → (Contains failed (link_of network p) → ⊥) → IsSent network (route_of network p.stream) p.hop
        → Intact p
    unfolding link_of
    first_intact p passage whole sent = record {
      way = p.hop ∷ [];
      has = Contains-head p.hop [];
      closed = λ j next below among continues. elim (Contains-cons_cases p.hop [] next among) [
        | inl same ↦ absurd (sent_alone network (route_of network p.stream) (route_formed network formed p.stream passage.stream) j p.hop below
            (subst (Continues network (route_of network p.stream) j) (sym same) continues) sent)
        | inr none ↦ absurd (Contains-nil next none)
      ];
      whole = All-cons (λ j. Contains failed (route_link network p.stream j) → ⊥) p.hop [] whole
          (All-nil (λ j. Contains failed (route_link network p.stream j) → ⊥));
    }

    more_intact : (p : Passage) (before : ℕ) → IsPassage network cycles p → (Contains failed (link_of network p) → ⊥) → before < hop_count network p.stream
        → Continues network (route_of network p.stream) before p.hop → Intact (record p { hop = before }) → Intact p
    unfolding link_of
    more_intact p before passage whole below continues intact = record {
      way = p.hop ∷ intact.way;
      has = Contains-head p.hop intact.way;
      closed = λ j next j_below among from_j. elim (Contains-cons_cases p.hop intact.way next among) [
        | inl same ↦
            let only = continued_once network (route_of network p.stream) (route_formed network formed p.stream passage.stream) before j p.hop below j_below passage.hop continues
            (subst (Continues network (route_of network p.stream) j) (sym same) from_j) in
            Contains-more p.hop intact.way j (subst (Contains intact.way) only intact.has)
        | inr later ↦ Contains-more p.hop intact.way j (intact.closed j next j_below later from_j)
      ];
      whole = All-cons (λ j. Contains failed (route_link network p.stream j) → ⊥) p.hop intact.way whole intact.whole;
    }

    ready_intact : (p : Passage) (t : ℕ) → IsPassage network cycles p → (Contains failed (link_of network p) → ⊥) → IsReady network offsets run p t
        → ((before s : ℕ) → before < p.hop → StartedAt run (record p { hop = before }) s → Intact (record p { hop = before })) → Intact p
    ready_intact p t passage whole (inl (sent, at)) earlier = first_intact p passage whole sent
    ready_intact p t passage whole (inr (before, s, continues, at, ready)) earlier =
        let below = started_hop p before s at in
        let order = continues-before network (route_of network p.stream) (route_formed network formed p.stream passage.stream) before p.hop below passage.hop continues in
        more_intact p before passage whole below continues (earlier before s order at)

    -- what started had a whole way
    started_intact : (bound : ℕ) (p : Passage) (s : ℕ) → p.hop < bound → StartedAt run p s → Intact p
    started_intact zero p s hop at = absurd (omega arith)
    started_intact (suc bound) p s hop at =
        let passage = started_passage p s at in
        let whole = All-contains (λ (begun : ScheduledStart). Contains failed (link_of network begun.passage) → ⊥) run.scheduled _ is.silent at in
        let due = begun_ready p s at in
        ready_intact p due.0 passage whole due.1 (λ before u less early. started_intact bound (record p { hop = before }) u (omega arith) early)

    -- ---- no frame is late, and none earlier than its lead, by induction on the instant

    module _ (lead : Passage → ℕ) (holds : HoldsToWithout failed network offsets gates slack lead) (tolerates : ToleratesLead network offsets slack lead) where
      -- what starts before instant n is early by at most its lead
      abbrev NotEarlyBefore : ℕ → Type 0
      NotEarlyBefore n = (q : Passage) (s : ℕ) → StartedAt run q s → s < n → planned network offsets q ≤ s + lead q

      -- what is planned before it, and has a whole way, starts by its planned instant
      abbrev InTimeBefore : ℕ → Type 0
      InTimeBefore n = (q : Passage) → IsPassage network cycles q → Intact q → planned network offsets q < n → (s : ℕ) × StartedAt run q s ×
          (s ≤ planned network offsets q)

      -- then what is ready by instant n is so early by at most the lead on the hop before and the slack
      ready_from : (n : ℕ) → NotEarlyBefore n → (p : Passage) (due : ℕ) → IsPassage network cycles p → IsReady network offsets run p due → ready p ≤ n
          → planned network offsets p ≤ ready p + readiness network slack lead p
      unfolding link_of
      ready_from n not_early p due passage (inl (sent, at)) by =
          let plan = planned_first p passage sent in
          let sum = readiness_sent network slack lead p (route_formed network formed p.stream passage.stream) sent in
          let early = is.early p due passage (inl (sent, at)) in
          omega arith
      ready_from n not_early p due passage (inr (before, s, continues, at, due_is)) by =
          let below = started_hop p before s at in
          let plan = planned_next p before passage below continues in
          let sum = readiness_continues network slack lead p (route_formed network formed p.stream passage.stream) before below passage.hop continues in
          let early = is.early p due passage (inr (before, s, continues, at, due_is)) in
          let after = tolerates.after_start p.stream before p.hop passage.stream below passage.hop continues in
          let late = not_early (record p { hop = before }) s at (omega (arith, early.1)) in
          omega (arith, early.1)

      started_ready : (n : ℕ) → NotEarlyBefore n → (p : Passage) (s : ℕ) → StartedAt run p s → s ≤ n
          → planned network offsets p ≤ s + readiness network slack lead p
      started_ready n not_early p s at by =
          let begun = begun_ready p s at in
          let bound = ready_from n not_early p begun.0 (started_passage p s at) begun.1 (omega (arith, begun.2)) in
          omega (arith, begun.2)

      -- a passage that started at n too early would have met a gate, or a frame on the wire
      not_early_at : (n : ℕ) → NotEarlyBefore n → InTimeBefore (n + 1) → (q : Passage) (s : ℕ) → StartedAt run q s → s ≡ n
          → planned network offsets q ≤ s + lead q
      not_early_at n not_early in_time q s at now = elim (cases_lt (s + lead q) (planned network offsets q)) [
        | inr held ↦ held
        | inl too_early ↦
            let passage = started_passage q s at in
            let other = holds cycles q s passage (started_ready n not_early q s at (omega arith)) too_early (fits_at q s at) in
            let found = in_time other.0 other.1 other.2 (omega (arith, other.4)) in
            let differ : other.0 ≡ q → ⊥ = λ same.
            let one : planned network offsets other.0 ≡ planned network offsets q = ap (planned network offsets) same in
            omega (arith, other.4) in
            let some = window_some q passage in
            let other_some = window_some other.0 other.1 in
            let still : s < found.0 + length_of network other.0 = elim (cases_lt found.0 n) [
              | inl before ↦ let bound = not_early other.0 found.0 found.1 before in omega (arith, other.5)
              | inr not_before ↦ omega arith
            ] in
            absurd (wires_differ other.0 q found.0 s found.1 at differ other.3 s (omega (arith, found.2, other.4)) still (omega arith) (omega arith))
      ]

      -- a passage planned for n is ready by n
      ready_by : (p : Passage) → IsPassage network cycles p → Intact p → InTimeBefore (planned network offsets p)
          → (due : ℕ) × IsReady network offsets run p due × (due ≤ planned network offsets p)
      ready_by p passage intact earlier =
          elim (follow_cases network (route_of network p.stream) (route_formed network formed p.stream passage.stream) p.hop passage.hop) [
            | inl sent ↦
                let plan = planned_first p passage sent in
                (planned network offsets p, inl (sent, plan), omega arith)
            | inr (before, less, continues) ↦
                let below : before < hop_count network p.stream = omega (arith, passage.hop) in
                let plan = planned_next p before passage below continues in
                let q_passage = passage_before p before passage below in
                let delay = hop_delay-pos network formed p.stream passage.stream before below in
                let found = earlier (record p { hop = before }) q_passage (before_intact p before intact below continues) (omega arith) in
                (found.0 + hop_delay network p.stream (route_link network p.stream before), inr (before, found.0, continues, found.1, refl), omega (arith, found.2))
          ]

      -- and nothing delays it there: what has the wire or is before it in the queue was planned before, and is done
      not_delayed : (p : Passage) (due : ℕ) → IsPassage network cycles p → Intact p → NotEarlyBefore (planned network offsets p)
          → InTimeBefore (planned network offsets p)
          → IsReady network offsets run p due → due ≤ planned network offsets p
          → NotStartedBefore run p (planned network offsets p + 1) → IsDelayed network offsets gates cycles ready run p (planned network offsets p) → ⊥
      not_delayed p due passage intact not_early earlier p_ready by_plan none delayed = delayed_by p passage delayed
          (λ q s at same_link before still.
          let q_passage = started_passage q s at in
          let bound = started_ready (planned network offsets p) not_early q s at (omega arith) in
          elim (passage_cases q p) [
            | inl same ↦ let late = none s (subst (λ r. StartedAt run r s) same at) in omega arith
            | inr differ ↦ elim (cases_lt (planned network offsets q) (planned network offsets p)) [
              | inl sooner ↦
                  let found = earlier q q_passage (started_intact (suc q.hop) q s (omega arith) at) sooner in
                  let same : s ≡ found.0 = is.once q s found.0 at found.1 in
                  let past = after_window q p q_passage passage same_link differ (omega arith) in
                  omega (arith, found.2)
              | inr not_sooner ↦
                  let past = after_window p q passage q_passage (sym same_link) (λ e. differ (sym e)) not_sooner in
                  let some = window_some p passage in
                  let apart = tolerates.spaced (link_of network p) cycles p q passage q_passage refl same_link (omega arith) in
                  omega arith
            ]
          ])
          (λ q q_due q_passage differ same_link q_ready order not_before.
          let early = is.early p due passage p_ready in
          let bound = ready_from (planned network offsets p) not_early q q_due q_passage q_ready (omega (arith, early.0)) in
          elim (cases_lt (planned network offsets q) (planned network offsets p)) [
            | inl sooner ↦
                let whole = subst (λ l. Contains failed l → ⊥) (sym same_link) (not_failed p intact) in
                let q_intact = ready_intact q q_due q_passage whole q_ready (λ before s less at. started_intact q.hop (record q { hop = before }) s less at) in
                let found = earlier q q_passage q_intact sooner in
                let after = not_before found.0 found.1 in
                omega (arith, found.2)
            | inr not_sooner ↦
                let past = after_window p q passage q_passage (sym same_link) (λ e. differ (sym e)) not_sooner in
                let some = window_some p passage in
                let apart = tolerates.spaced (link_of network p) cycles p q passage q_passage refl same_link (omega arith) in
                omega (arith, early.0)
          ])

      in_time_at : (p : Passage) → IsPassage network cycles p → Intact p → NotEarlyBefore (planned network offsets p)
          → InTimeBefore (planned network offsets p)
          → (s : ℕ) × StartedAt run p s × (s ≤ planned network offsets p)
      in_time_at p passage intact not_early earlier =
          let p_ready = ready_by p passage intact earlier in
          let early = is.early p p_ready.0 passage p_ready.1 in
          elim (started_cases run.scheduled p (planned network offsets p + 1)) [
            | inl started ↦ (started.time, started.at, omega (arith, started.before))
            | inr none ↦
                absurd (not_delayed p p_ready.0 passage intact not_early earlier p_ready.1 p_ready.2 none
                (is.waits p p_ready.0 (planned network offsets p) passage (not_failed p intact) p_ready.1 (omega (arith, early.0, p_ready.2))
                (in_run p passage) none))
          ]

      all_before : (n : ℕ) → NotEarlyBefore n × InTimeBefore n
      all_before zero = ((λ q s at below. absurd (omega arith)), (λ q passage intact below. absurd (omega arith)))
      all_before (suc n) =
          let so_far = all_before n in
          let in_time : InTimeBefore (n + 1) = λ q passage intact below. elim (cases_lt (planned network offsets q) n) [
            | inl before ↦ so_far.1 q passage intact before
            | inr not_before ↦
                let now : n ≡ planned network offsets q = omega arith in
                in_time_at q passage intact (subst NotEarlyBefore now so_far.0) (subst InTimeBefore now so_far.1)
          ] in (
            (λ q s at below. elim (cases_lt s n) [
              | inl before ↦ so_far.0 q s at before
              | inr not_before ↦ not_early_at n so_far.0 in_time q s at (omega arith)
            ]),
            (λ q passage intact below. in_time q passage intact (omega arith)),
          )

      pub intact_in_time : (p : Passage) → IsPassage network cycles p → Intact p
          → (s : ℕ) × StartedAt run p s × (s ≤ planned network offsets p) × (planned network offsets p ≤ s + lead p)
      intact_in_time p passage intact =
          let found = (all_before (suc (planned network offsets p))).1 p passage intact (omega arith) in
          (found.0, found.1, found.2, (all_before (suc found.0)).0 p found.0 found.1 (omega arith))

  -- ---- where no link has failed

  pub all_intact : (p : Passage) → IsPassage network cycles p → IsIntact [] network (route_of network p.stream) p.hop
  all_intact p passage = record {
    way = range_with_len 0 (hop_count network p.stream);
    has = Contains-range (hop_count network p.stream) 0 p.hop (omega arith) (let hop = passage.hop in omega arith);
    closed = λ j next below among continues. Contains-range (hop_count network p.stream) 0 j (omega arith) (omega arith);
    whole = λ k d below failed. Contains-nil _ failed;
  }

pub hold_without : (network : Network) (formed : IsWellFormed network) (offsets : List ℕ) (valid : IsValid network offsets) (gates : List LinkGates)
    (slack : ℕ → ℕ) (lead : Passage → ℕ)
    → HoldsTo network offsets gates slack lead → HoldsToWithout [] network offsets gates slack lead
hold_without network formed offsets valid gates slack lead holds cycles p t passage by_ready too_early fits =
    let other = holds cycles p t passage by_ready too_early fits in
    (other.0, other.1, all_intact network formed offsets valid cycles other.0 other.1, other.2, other.3, other.4)

pub starts_in_time : (network : Network) (formed : IsWellFormed network) (offsets : List ℕ) (valid : IsValid network offsets) (cycles : ℕ)
    (gates : List LinkGates) (has : KeepsWantedGates network offsets gates) (slack : ℕ → ℕ) (ready : Passage → ℕ) (run : BridgeRun)
    → IsEarlyRun network offsets gates cycles slack ready run
    → (lead : Passage → ℕ) → HoldsTo network offsets gates slack lead → ToleratesLead network offsets slack lead
    → StartsInTime network offsets cycles lead run
starts_in_time network formed offsets valid cycles gates has slack ready run is lead holds tolerates p passage =
    intact_in_time network formed offsets valid cycles gates has [] slack ready run is lead
    (hold_without network formed offsets valid gates slack lead holds) tolerates p passage (all_intact network formed offsets valid cycles p passage)

-- ---- the gates that the schedule asks for

module _ (network : Network) (formed : IsWellFormed network) (offsets : List ℕ) (valid : IsValid network offsets) (gates : List LinkGates)
    (wanted : HasWantedGates network offsets gates) (slack : ℕ → ℕ) where
  -- where they let a passage start early the window is another one's, which has just started
  pub wanted_hold : HoldsTo network offsets gates slack (λ passage. 0)
  wanted_hold cycles p t passage by_ready too_early fits =
      let some = window_some network formed offsets valid cycles p passage in
      let within = in_run network formed offsets valid cycles p passage in
      let opened = fits t (omega arith) (omega arith) in
      let item_link : (get_or gates opened.0 opened.1).link ≡ link_of network p = ap (λ (item : LinkGates). item.link) opened.3 ∙ opened.4.0 in
      let used = subst (UsesLink network p.stream) (sym item_link) (uses network formed offsets valid cycles p passage) in
      let octet = wanted.wanted opened.0 opened.1 opened.2 p.stream t opened.4.1.0 used
      (subst (λ (item : LinkGates). IsOctetAt item.entries t opened.4.1.0) (sym opened.3) opened.4.1.1) in
      let window = window_open network formed offsets valid cycles (link_of network p) (t % network.cycle) opened.4.1.0 opened.4.1.2
      (subst (λ l. IsWanted network offsets l (t % network.cycle) opened.4.1.0) item_link octet) in
      let owner = owner_of network formed offsets valid cycles (link_of network p) t (omega arith) window in
      (owner.passage, owner.is, owner.same_link, owner.begun, omega (arith, owner.not_ended))

pub no_lead_tolerated : (network : Network) (offsets : List ℕ) (slack : ℕ → ℕ) → Tolerates network offsets slack
    → ToleratesLead network offsets slack (λ passage. 0)
no_lead_tolerated network offsets slack tolerates = record {
  spaced = λ link cycles first second first_passage second_passage first_link second_link less.
      let apart = (tolerates link).spaced cycles first second first_passage second_passage first_link second_link less in
      let early = no_lead network slack second in
      let same : slack (link_of network second) ≡ slack link = ap slack second_link in
      omega arith;
  after_start = λ i before k counted before_within within continues.
      (tolerates (route_link network i k)).after_start i before k counted before_within within continues refl;
}
