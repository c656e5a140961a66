-- The small networks with periods and bursts.
use Rattle.tsn_model.specs.Argument.{goal_first, done_from, IsFact, opposite, learned, learned_all, refuting, head_at, end_at, most, first_head, last_end, work_on, AreOn, AreSome, shown, narrowed, greatest_flowspan, first_ground, capped, settled, begun, ended, known_with, known_after, Argues}
use Rattle.tsn_model.proofs.Arguments.{argued_first}
use Rattle.std.proofs.Common.{get_or, ◌≡◌, ◌≢◌, ℕ, zero, suc, ◌+◌, ◌≤◌, ◌<◌, ◌⊎◌, ◌-ℤ◌, List, [], ◌∷◌, ap, Contains, refl, sym, subst, arith, inl, inr, pos, ◌≤ℤ◌, Some}
use Rattle.std.proofs.lemmas.Int.{ints}
use Rattle.std.proofs.lemmas.Bool.{cases_lt}
use Rattle.std.proofs.lemmas.List.Elements.{All-nil, All-cons}
use Rattle.tsn_model.specs.declared.Triple.{Triple}
use Rattle.tsn_model.specs.declared.Frame.{Frame}
use Rattle.tsn_model.specs.declared.Side.TheVariants.{Left, Right}
use Rattle.tsn_model.specs.Network.{Network, IsWellFormed, stream_at, octets_of, turns_of, period_of, burst_of, route_of, release_of, latest_of, link_at}
use Rattle.tsn_model.specs.Timing.{occupancy, separation, pace, spread, shifts, Sends, transfer, hop_delay, ready_after, start, hop_arrival, arrival, hop_end, span, greatest, hop_on, start_on, UsesLink}
use Rattle.tsn_model.specs.Schedule.{offset_of, IsValid, flowspan, target_of, FrameOccupies, Occupies, IsConflict, Overlaps, AreApart, FitsPeriod, IsReleased, IsInTime, IsFirst, latest_offset}
use Rattle.tsn_model.specs.Arcs.{put_in, may_meet, differences, lags_of, triples_of, is_conflict, conflicts_of, arc_between, arc_on, arc_of, arcs_of}
use Rattle.tsn_model.specs.Certificate.{Entry, late, IsFrameOn, begin_on, end_on, least, LeadsTo, AreEntries, head_of, tail_of, work_of, busy_until, load_bound, sum_on, late_bound, beyond, decided, Accepts, Proves, AreChains, chain_at, Ties}
use Rattle.tsn_model.specs.Gates.{InWindow}
use Rattle.tsn_model.specs.Examples.{shared, small_offsets, small_first_tree, twice_network, late_network, late_offsets, shared_later, late_tree, burst_network, burst_offsets, burst_tree, burst_steps, SmallPeriods}
use Rattle.tsn_model.proofs.Conflicts.{conflict_listed, listed_conflict}
use Rattle.tsn_model.proofs.Validity.{valid_from_parts}
use Rattle.tsn_model.proofs.Routes.{UsesLink-counted}
use Rattle.tsn_model.proofs.Soundness.{accepted_optimal}
use Rattle.tsn_model.proofs.Firsts.{accepted_first}
use Rattle.tsn_model.proofs.Lists.{Contains-head, Contains-more, Contains-cons_cases, Contains-nil}
use Rattle.tsn_laws.proofs.Small.{streams_star, both_streams, all_two, all_three, pairs_two, pairs_three, one_chain, at_once}
use Rattle.tsn_laws.proofs.SmallArguments.{is_open}

-- at each of two conflicts the frames are apart
apart_two : (network : Network) (offsets : List ℕ) → IsWellFormed network → (a b : Triple) → conflicts_of network ≡ a ∷ b ∷ []
    → (Overlaps network offsets a → ⊥) → (Overlaps network offsets b → ⊥) → AreApart network offsets
apart_two network offsets formed a b listed first second triple conflict overlaps =
    elim (Contains-cons_cases a (b ∷ []) triple (subst (λ ts. Contains ts triple) listed (conflict_listed network formed triple conflict))) [
      | inl same ↦ first (subst (Overlaps network offsets) (sym same) overlaps)
      | inr rest ↦ elim (Contains-cons_cases b [] triple rest) [
        | inl same ↦ second (subst (Overlaps network offsets) (sym same) overlaps)
        | inr none ↦ absurd (Contains-nil triple none)
      ]
    ]

-- ---- twice_network

twice_formed : IsWellFormed twice_network
unfolding twice_network
twice_formed = streams_star 20000 2 1 0 (omega arith) (omega arith) (omega arith) refl (omega arith) (omega arith) (omega arith) (omega arith)

twice_whole : flowspan twice_network small_offsets ≡ 2924
unfolding twice_network small_offsets late_offsets burst_offsets shared shared_later stream_at octets_of turns_of period_of burst_of route_of release_of latest_of link_at occupancy separation pace spread shifts transfer hop_delay start arrival hop_end span greatest hop_on start_on flowspan ready_after hop_arrival
twice_whole = refl

twice_conflicts : conflicts_of twice_network ≡ shared_later ∷ shared ∷ []
unfolding twice_network small_offsets late_offsets burst_offsets shared shared_later stream_at octets_of turns_of period_of burst_of route_of release_of latest_of link_at occupancy separation pace spread shifts transfer hop_delay start arrival hop_end span greatest hop_on start_on lags_of differences may_meet put_in triples_of is_conflict conflicts_of ready_after hop_arrival
twice_conflicts = refl

twice_valid : IsValid twice_network small_offsets
unfolding twice_network small_offsets late_offsets burst_offsets shared shared_later stream_at octets_of turns_of period_of burst_of route_of release_of latest_of link_at occupancy separation pace spread shifts transfer hop_delay start arrival hop_end span greatest hop_on start_on ready_after hop_arrival
twice_valid =
    valid_from_parts twice_network small_offsets refl (both_streams (FitsPeriod twice_network small_offsets) (omega arith) (omega arith))
    (apart_two twice_network small_offsets twice_formed shared_later shared twice_conflicts
    (λ overlaps. omega (arith, ints, overlaps.is, overlaps.by_left.begun, overlaps.by_left.not_ended, overlaps.by_right.begun, overlaps.by_right.not_ended))
    (λ overlaps. omega (arith, ints, overlaps.is, overlaps.by_left.begun, overlaps.by_left.not_ended, overlaps.by_right.begun, overlaps.by_right.not_ended)))
    (both_streams (IsReleased twice_network small_offsets) (omega arith) (omega arith))
    (both_streams (IsInTime twice_network small_offsets) (omega arith) (omega arith))

-- ---- late_network

late_formed : IsWellFormed late_network
unfolding late_network
late_formed = streams_star 20000 2 1 10000 (omega arith) (omega arith) (omega arith) refl (omega arith) (omega arith) (omega arith) (omega arith)

late_whole : flowspan late_network late_offsets ≡ 12252
unfolding late_network small_offsets late_offsets burst_offsets shared shared_later stream_at octets_of turns_of period_of burst_of route_of release_of latest_of link_at occupancy separation pace spread shifts transfer hop_delay start arrival hop_end span greatest hop_on start_on flowspan ready_after hop_arrival
late_whole = refl

late_conflicts : conflicts_of late_network ≡ shared_later ∷ shared ∷ []
unfolding late_network small_offsets late_offsets burst_offsets shared shared_later stream_at octets_of turns_of period_of burst_of route_of release_of latest_of link_at occupancy separation pace spread shifts transfer hop_delay start arrival hop_end span greatest hop_on start_on lags_of differences may_meet put_in triples_of is_conflict conflicts_of ready_after hop_arrival
late_conflicts = refl

late_valid : IsValid late_network late_offsets
unfolding late_network small_offsets late_offsets burst_offsets shared shared_later stream_at octets_of turns_of period_of burst_of route_of release_of latest_of link_at occupancy separation pace spread shifts transfer hop_delay start arrival hop_end span greatest hop_on start_on ready_after hop_arrival
late_valid =
    valid_from_parts late_network late_offsets refl (both_streams (FitsPeriod late_network late_offsets) (omega arith) (omega arith))
    (apart_two late_network late_offsets late_formed shared_later shared late_conflicts
    (λ overlaps. omega (arith, ints, overlaps.is, overlaps.by_left.begun, overlaps.by_left.not_ended, overlaps.by_right.begun, overlaps.by_right.not_ended))
    (λ overlaps. omega (arith, ints, overlaps.is, overlaps.by_left.begun, overlaps.by_left.not_ended, overlaps.by_right.begun, overlaps.by_right.not_ended)))
    (both_streams (IsReleased late_network late_offsets) (omega arith) (omega arith))
    (both_streams (IsInTime late_network late_offsets) (omega arith) (omega arith))

-- the second frame of the burst, and the second stream's
burst_later : Triple
burst_later = record { left = 0; right = 1; link = 4; lag = pos 0 -ℤ pos 672 }

-- ---- burst_network

burst_formed : IsWellFormed burst_network
unfolding burst_network
burst_formed = streams_star 20000 1 2 0 (omega arith) (omega arith) (omega arith) refl (omega arith) (omega arith) (omega arith) (omega arith)

burst_whole : flowspan burst_network burst_offsets ≡ 3596
unfolding burst_network small_offsets late_offsets burst_offsets shared shared_later stream_at octets_of turns_of period_of burst_of route_of release_of latest_of link_at occupancy separation pace spread shifts transfer hop_delay start arrival hop_end span greatest hop_on start_on flowspan ready_after hop_arrival
burst_whole = refl

burst_conflicts : conflicts_of burst_network ≡ burst_later ∷ shared ∷ []
unfolding burst_network small_offsets late_offsets burst_offsets shared shared_later stream_at octets_of turns_of period_of burst_of route_of release_of latest_of link_at occupancy separation pace spread shifts transfer hop_delay start arrival hop_end span greatest hop_on start_on burst_later lags_of differences may_meet put_in triples_of is_conflict conflicts_of ready_after hop_arrival
burst_conflicts = refl

burst_valid : IsValid burst_network burst_offsets
unfolding burst_network small_offsets late_offsets burst_offsets shared shared_later stream_at octets_of turns_of period_of burst_of route_of release_of latest_of link_at occupancy separation pace spread shifts transfer hop_delay start arrival hop_end span greatest hop_on start_on burst_later ready_after hop_arrival
burst_valid =
    valid_from_parts burst_network burst_offsets refl (both_streams (FitsPeriod burst_network burst_offsets) (omega arith) (omega arith))
    (apart_two burst_network burst_offsets burst_formed burst_later shared burst_conflicts
    (λ overlaps. omega (arith, ints, overlaps.is, overlaps.by_left.begun, overlaps.by_left.not_ended, overlaps.by_right.begun, overlaps.by_right.not_ended))
    (λ overlaps. omega (arith, ints, overlaps.is, overlaps.by_left.begun, overlaps.by_left.not_ended, overlaps.by_right.begun, overlaps.by_right.not_ended)))
    (both_streams (IsReleased burst_network burst_offsets) (omega arith) (omega arith))
    (both_streams (IsInTime burst_network burst_offsets) (omega arith) (omega arith))

-- ---- the first plan of the first network

twice_shared : IsConflict twice_network shared
twice_shared =
    listed_conflict twice_network shared
    (subst (λ ts. Contains ts shared) (sym twice_conflicts) (Contains-more shared_later (shared ∷ []) shared (Contains-head shared [])))

twice_left : Ties twice_network (decided [] shared Left) small_offsets (late 1 (0 ∷ [])) ([] ∷ (0 ∷ []) ∷ [])
unfolding twice_network small_offsets late_offsets burst_offsets shared shared_later stream_at octets_of turns_of period_of burst_of route_of release_of latest_of link_at occupancy separation pace spread shifts transfer hop_delay start arrival hop_end span greatest hop_on start_on decided arcs_of arc_of arc_on arc_between sum_on late_bound flowspan ready_after hop_arrival
twice_left = record {
  bounded = tt;
  bound = (record { stream = omega arith; chain_to = one_chain _ 1 refl }, omega (arith, ints));
  are_chains =
      both_streams (λ i. LeadsTo twice_network (decided [] shared Left) (chain_at ([] ∷ (0 ∷ []) ∷ []) i) i)
      (record { stream = omega arith; chain_to = at_once _ 0 }) (record { stream = omega arith; chain_to = one_chain _ 1 refl });
  after =
      inr (
        refl,
        both_streams (λ i. sum_on twice_network (decided [] shared Left) (chain_at ([] ∷ (0 ∷ []) ∷ []) i) i ≡ pos (offset_of small_offsets i)) refl refl,
      );
}

twice_right_chains : AreChains twice_network (decided [] shared Right) ((0 ∷ []) ∷ [])
unfolding twice_network shared decided arcs_of arc_of arc_on arc_between
twice_right_chains zero below = record { stream = omega arith; chain_to = one_chain _ 0 refl }
twice_right_chains (suc k) below = absurd (omega arith)

twice_right : Ties twice_network (decided [] shared Right) small_offsets (late 0 (0 ∷ [])) ((0 ∷ []) ∷ [])
unfolding twice_network small_offsets late_offsets burst_offsets shared shared_later stream_at octets_of turns_of period_of burst_of route_of release_of latest_of link_at occupancy separation pace spread shifts transfer hop_delay start arrival hop_end span greatest hop_on start_on decided arcs_of arc_of arc_on arc_between sum_on late_bound flowspan ready_after hop_arrival
twice_right = record {
  bounded = tt;
  bound = (record { stream = omega arith; chain_to = one_chain _ 0 refl }, omega (arith, ints));
  are_chains = twice_right_chains;
  after = inl (0, omega arith, (λ i below. absurd (omega arith)), omega (arith, ints));
}

twice_first : IsFirst twice_network small_offsets
unfolding small_first_tree
twice_first = accepted_first twice_network twice_formed small_offsets twice_valid small_first_tree (twice_shared, twice_left, twice_right)

-- ---- the first plan of the second network

late_shared : IsConflict late_network shared_later
late_shared = listed_conflict late_network shared_later (subst (λ ts. Contains ts shared_later) (sym late_conflicts) (Contains-head shared_later (shared ∷ [])))

late_left_bound : Proves late_network (decided [] shared_later Left) (beyond late_network (target_of late_network (Some late_offsets))) (late 1 (0 ∷ []))
unfolding late_network small_offsets late_offsets burst_offsets shared shared_later stream_at octets_of turns_of period_of burst_of route_of release_of latest_of link_at occupancy separation pace spread shifts transfer hop_delay start arrival hop_end span greatest hop_on start_on decided arcs_of arc_of arc_on arc_between sum_on late_bound flowspan target_of beyond ready_after hop_arrival
late_left_bound = (record { stream = omega arith; chain_to = one_chain _ 1 refl }, omega (arith, ints))

late_right : Ties late_network (decided [] shared_later Right) late_offsets (late 1 []) ((0 ∷ []) ∷ [] ∷ [])
unfolding late_network small_offsets late_offsets burst_offsets shared shared_later stream_at octets_of turns_of period_of burst_of route_of release_of latest_of link_at occupancy separation pace spread shifts transfer hop_delay start arrival hop_end span greatest hop_on start_on decided arcs_of arc_of arc_on arc_between sum_on late_bound flowspan ready_after hop_arrival
late_right = record {
  bounded = tt;
  bound = (record { stream = omega arith; chain_to = at_once _ 1 }, omega (arith, ints));
  are_chains =
      both_streams (λ i. LeadsTo late_network (decided [] shared_later Right) (chain_at ((0 ∷ []) ∷ [] ∷ []) i) i)
      (record { stream = omega arith; chain_to = one_chain _ 0 refl }) (record { stream = omega arith; chain_to = at_once _ 1 });
  after =
      inr (
        refl,
        both_streams (λ i. sum_on late_network (decided [] shared_later Right) (chain_at ((0 ∷ []) ∷ [] ∷ []) i) i ≡ pos (offset_of late_offsets i)) refl refl,
      );
}

late_first : IsFirst late_network late_offsets
unfolding late_tree
late_first = accepted_first late_network late_formed late_offsets late_valid late_tree (late_shared, late_left_bound, late_right)

-- at 11,626 ns the second frame of the first stream and the second stream's would both begin on the link to C
late_sends : Sends late_network 0 10000
unfolding late_network small_offsets late_offsets burst_offsets shared shared_later stream_at octets_of turns_of period_of burst_of route_of release_of latest_of link_at occupancy separation pace spread shifts transfer hop_delay start arrival hop_end span greatest hop_on start_on ready_after hop_arrival
late_sends = Contains-more 0 (10000 ∷ []) 10000 (Contains-head 10000 [])

late_refused : IsValid late_network (0 ∷ 10000 ∷ []) → ⊥
unfolding late_network small_offsets late_offsets burst_offsets shared shared_later stream_at octets_of turns_of period_of burst_of route_of release_of latest_of link_at occupancy separation pace spread shifts transfer hop_delay start arrival hop_end span greatest hop_on start_on ready_after hop_arrival
late_refused valid =
    valid.disjoint 0 1 4 11626 (λ same. omega arith) refl refl
    (record { shift = 10000; sent = late_sends; frame = record { begun = omega arith; not_ended = omega arith } })
    (record { shift = 0; sent = Contains-head 0 []; frame = record { begun = omega arith; not_ended = omega arith } })

-- ---- windows

twice_shifts : shifts twice_network 0 ≡ 0 ∷ 10000 ∷ []
unfolding twice_network small_offsets late_offsets burst_offsets shared shared_later stream_at octets_of turns_of period_of burst_of route_of release_of latest_of link_at occupancy separation pace spread shifts transfer hop_delay start arrival hop_end span greatest hop_on start_on ready_after hop_arrival
twice_shifts = refl

abbrev AreWindows : ℕ → Type 0
AreWindows t = ((1626 ≤ t) × (t < 2970)) ⊎ ((11626 ≤ t) × (t < 12298))

in_first : (shift t : ℕ) → Sends twice_network 0 shift → FrameOccupies twice_network small_offsets 0 shift 4 t → AreWindows t
unfolding twice_network small_offsets late_offsets burst_offsets shared shared_later stream_at octets_of turns_of period_of burst_of route_of release_of latest_of link_at occupancy separation pace spread shifts transfer hop_delay start arrival hop_end span greatest hop_on start_on ready_after hop_arrival
in_first shift t sent frame =
    let begun : 0 + shift + 1626 ≤ t = frame.begun in
    let ends : t < 0 + shift + 1626 + 672 = frame.not_ended in
    elim (Contains-cons_cases 0 (10000 ∷ []) shift sent) [
      | inl first ↦ inl (omega arith, omega arith)
      | inr rest ↦ elim (Contains-cons_cases 10000 [] shift rest) [
        | inl second ↦ inr (omega arith, omega arith)
        | inr none ↦ absurd (Contains-nil shift none)
      ]
    ]

in_second : (shift t : ℕ) → Sends twice_network 1 shift → FrameOccupies twice_network small_offsets 1 shift 4 t → AreWindows t
unfolding twice_network small_offsets late_offsets burst_offsets shared shared_later stream_at octets_of turns_of period_of burst_of route_of release_of latest_of link_at occupancy separation pace spread shifts transfer hop_delay start arrival hop_end span greatest hop_on start_on ready_after hop_arrival
in_second shift t sent frame =
    let begun : 672 + shift + 1626 ≤ t = frame.begun in
    let ends : t < 672 + shift + 1626 + 672 = frame.not_ended in
    elim (Contains-cons_cases 0 [] shift sent) [
      | inl first ↦ inl (omega arith, omega arith)
      | inr none ↦ absurd (Contains-nil shift none)
    ]

to_windows : (i t : ℕ) → i < 2 → Occupies twice_network small_offsets i 4 t → AreWindows t
to_windows zero t below occupies = in_first occupies.shift t occupies.sent occupies.frame
to_windows (suc zero) t below occupies = in_second occupies.shift t occupies.sent occupies.frame
to_windows (suc (suc i)) t below occupies = absurd (omega arith)

from_windows : (t : ℕ) → AreWindows t → InWindow twice_network small_offsets 4 t
unfolding twice_network small_offsets late_offsets burst_offsets shared shared_later stream_at octets_of turns_of period_of burst_of route_of release_of latest_of link_at occupancy separation pace spread shifts transfer hop_delay start arrival hop_end span greatest hop_on start_on ready_after hop_arrival
from_windows t (inl sooner) =
    let begun = sooner.0 in
    elim (cases_lt t 2298) [
      | inl first ↦ (0, refl, record { shift = 0; sent = Contains-head 0 (10000 ∷ []); frame = record { begun = omega arith; not_ended = omega arith } })
      | inr second ↦ (1, refl, record { shift = 0; sent = Contains-head 0 []; frame = record { begun = omega arith; not_ended = omega arith } })
    ]
from_windows t (inr later) =
    let begun = later.0 in
    (0, refl, record { shift = 10000; sent = Contains-more 0 (10000 ∷ []) 10000 (Contains-head 10000 []); frame = record { begun = omega arith; not_ended = omega arith } })

-- ---- the burst

burst_shifts : shifts burst_network 0 ≡ 0 ∷ 672 ∷ []
unfolding burst_network small_offsets late_offsets burst_offsets shared shared_later stream_at octets_of turns_of period_of burst_of route_of release_of latest_of link_at occupancy separation pace spread shifts transfer hop_delay start arrival hop_end span greatest hop_on start_on ready_after hop_arrival
burst_shifts = refl

burst_arrives : arrival burst_network 0 ≡ 2924
unfolding burst_network small_offsets late_offsets burst_offsets shared shared_later stream_at octets_of turns_of period_of burst_of route_of release_of latest_of link_at occupancy separation pace spread shifts transfer hop_delay start arrival hop_end span greatest hop_on start_on ready_after hop_arrival
burst_arrives = refl

abbrev three : List Entry
three = record { frame = record { stream = 0; shift = 0 }; chain = [] } ∷ record { frame = record { stream = 0; shift = 672 }; chain = [] } ∷ record { frame = record { stream = 1; shift = 0 }; chain = [] } ∷ []

burst_load : load_bound burst_network [] 4 three ≡ pos 3596
unfolding burst_network small_offsets late_offsets burst_offsets shared shared_later stream_at octets_of turns_of period_of burst_of route_of release_of latest_of link_at occupancy separation pace spread shifts transfer hop_delay start arrival hop_end span greatest hop_on start_on decided arcs_of arc_of arc_on arc_between load_bound busy_until least head_of tail_of work_of begin_on end_on sum_on ready_after hop_arrival
burst_load = refl

shifts_differ : (a b : Frame) → (a.shift ≡ b.shift → ⊥) → a ≢ b
shifts_differ a b differ same = differ (ap (λ (frame : Frame). frame.shift) same)

streams_differ : (a b : Frame) → (a.stream ≡ b.stream → ⊥) → a ≢ b
streams_differ a b differ same = differ (ap (λ (frame : Frame). frame.stream) same)

on_first : (shift : ℕ) → Contains (0 ∷ 672 ∷ []) shift → IsFrameOn burst_network 4 (record { stream = 0; shift = shift })
unfolding burst_network small_offsets late_offsets burst_offsets shared shared_later stream_at octets_of turns_of period_of burst_of route_of release_of latest_of link_at occupancy separation pace spread shifts transfer hop_delay start arrival hop_end span greatest hop_on start_on ready_after hop_arrival
on_first shift has = record { sent = has; uses = refl }

on_second : IsFrameOn burst_network 4 (record { stream = 1; shift = 0 })
unfolding burst_network small_offsets late_offsets burst_offsets shared shared_later stream_at octets_of turns_of period_of burst_of route_of release_of latest_of link_at occupancy separation pace spread shifts transfer hop_delay start arrival hop_end span greatest hop_on start_on ready_after hop_arrival
on_second = record { sent = Contains-head 0 []; uses = refl }

at_start : (i : ℕ) → i < 2 → LeadsTo burst_network [] [] i
unfolding burst_network arcs_of
at_start i below = record { stream = below; chain_to = at_once [] i }

three_entries : AreEntries burst_network [] 4 three
three_entries = record {
  different =
      pairs_three (λ x y. x.frame ≢ y.frame) _ _ _ (shifts_differ _ _ (λ same. omega arith)) (streams_differ _ _ (λ same. omega arith))
      (streams_differ _ _ (λ same. omega arith));
  on_link =
      all_three (λ e. IsFrameOn burst_network 4 e.frame) _ _ _ (on_first 0 (Contains-head 0 (672 ∷ [])))
      (on_first 672 (Contains-more 0 (672 ∷ []) 672 (Contains-head 672 []))) on_second;
  chains =
      all_three (λ e. LeadsTo burst_network [] e.chain e.frame.stream) _ _ _ (at_start 0 (omega arith)) (at_start 0 (omega arith)) (at_start 1 (omega arith));
}

burst_accepted : Accepts burst_network 3596 [] burst_tree
unfolding burst_tree
burst_accepted = (three_entries, subst (λ z. pos 3596 ≤ℤ z) (sym burst_load) (omega (arith, ints)))

-- ---- the burst's argument

abbrev frame_first : Frame
frame_first = record { stream = 0; shift = 0 }

abbrev frame_second : Frame
frame_second = record { stream = 0; shift = 672 }

abbrev frame_other : Frame
frame_other = record { stream = 1; shift = 0 }

on_link_second : IsFrameOn burst_network 4 frame_second
on_link_second = on_first 672 (Contains-more 0 (672 ∷ []) 672 (Contains-head 672 []))

packed_three : AreOn burst_network 4 (frame_first ∷ frame_second ∷ frame_other ∷ [])
packed_three = record {
  different =
      pairs_three ◌≢◌ _ _ _ (shifts_differ _ _ (λ same. omega arith)) (streams_differ _ _ (λ same. omega arith)) (streams_differ _ _ (λ same. omega arith));
  on_link = all_three (IsFrameOn burst_network 4) _ _ _ (on_first 0 (Contains-head 0 (672 ∷ []))) on_link_second on_second;
}

last_three : AreOn burst_network 4 (frame_other ∷ frame_first ∷ frame_second ∷ [])
last_three = record {
  different =
      pairs_three ◌≢◌ _ _ _ (streams_differ _ _ (λ same. omega arith)) (streams_differ _ _ (λ same. omega arith)) (shifts_differ _ _ (λ same. omega arith));
  on_link = all_three (IsFrameOn burst_network 4) _ _ _ on_second (on_first 0 (Contains-head 0 (672 ∷ []))) on_link_second;
}

both_some : AreSome (frame_first ∷ frame_second ∷ []) (frame_first ∷ frame_second ∷ [])
both_some = record {
  one = omega arith;
  different = pairs_two ◌≢◌ frame_first frame_second (shifts_differ _ _ (λ same. omega arith));
  among =
      all_two (Contains (frame_first ∷ frame_second ∷ [])) frame_first frame_second (Contains-head frame_first (frame_second ∷ []))
      (Contains-more frame_first (frame_second ∷ []) frame_second (Contains-head frame_second []));
}

burst_argued : Argues burst_network (goal_first burst_offsets) burst_steps
unfolding burst_steps burst_network small_offsets late_offsets burst_offsets shared shared_later stream_at octets_of turns_of period_of burst_of route_of release_of latest_of link_at occupancy separation pace spread shifts transfer hop_delay start arrival hop_end span greatest hop_on start_on flowspan least begin_on end_on opposite learned learned_all refuting head_at end_at most first_head last_end work_on shown narrowed latest_offset greatest_flowspan first_ground capped settled begun ended known_with known_after ready_after hop_arrival
burst_argued = (
  record {
    open_ground = is_open burst_network _ _ _ _ _ _ refl refl;
    facts = All-cons (IsFact burst_network) (done_from _) [] tt (All-nil (IsFact burst_network));
    moves = (
      is_open burst_network _ _ _ _ _ _ refl refl,
      omega arith,
      (is_open burst_network _ _ _ _ _ _ refl refl, omega arith, (is_open burst_network _ _ _ _ _ _ refl refl, (packed_three, omega (arith, ints)), tt)),
    );
    shows = inr (inr (omega (arith, ints)));
  },
  (
    record {
      open_ground = is_open burst_network _ _ _ _ _ _ refl refl;
      facts = All-nil (IsFact burst_network);
      moves = (is_open burst_network _ _ _ _ _ _ refl refl, (last_three, both_some, omega (arith, ints)), tt);
      shows = inl refl;
    },
    inr (
      omega (arith, ints),
      both_streams (λ i. pos (offset_of (0 ∷ 1344 ∷ []) i) ≤ℤ get_or (pos 0 ∷ pos 1344 ∷ []) i (pos 0)) (omega (arith, ints)) (omega (arith, ints)),
    ),
  ),
)

counted : (i : ℕ) → UsesLink twice_network i 4 → i < 2
unfolding twice_network
counted i uses = UsesLink-counted twice_network i 4 uses

pub small_periods : SmallPeriods
small_periods = record {
  twice_shifts = twice_shifts;
  twice_conflicts = twice_conflicts;
  twice_whole = twice_whole;
  twice_windows = λ t. ((λ window. to_windows window.0 t (counted window.0 window.1) window.2), from_windows t);
  twice_first = twice_first;
  late_whole = late_whole;
  late_first = late_first;
  late_refused = late_refused;
  burst_shifts = burst_shifts;
  burst_arrives = burst_arrives;
  burst_whole = burst_whole;
  burst_accepted = burst_accepted;
  burst_argued = burst_argued;
  burst_first = argued_first burst_network burst_formed burst_offsets burst_valid burst_steps burst_argued;
  burst_optimal =
      accepted_optimal burst_network burst_formed burst_offsets burst_valid burst_tree
      (subst (λ target. Accepts burst_network target [] burst_tree) (sym burst_whole) burst_accepted);
}
