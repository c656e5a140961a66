-- The small networks whose routes have branches.
use Rattle.std.proofs.Common.{◌≡◌, ◌≢◌, ℕ, zero, suc, ◌≤◌, ◌<◌, ◌⊎◌, List, [], ◌∷◌, length, get_or, All, AllPairs, Contains, refl, sym, ap, ◌∙◌, subst, arith, inl, inr, pos, Some}
use Rattle.std.proofs.lemmas.Int.{ints}
use Rattle.std.proofs.lemmas.List.Elements.{All-nil, All-cons}
use Rattle.std.proofs.lemmas.List.Kept.{AllPairs-cons}
use Rattle.std.proofs.Math.Nat.{mod-one}
use Rattle.tsn_model.specs.declared.Triple.{Triple}
use Rattle.tsn_model.specs.declared.Side.TheVariants.{Left, Right}
use Rattle.tsn_model.specs.Network.{Stream, IsWellFormed, IsLink, IsRoute, IsStream, stream_at, octets_of, turns_of, period_of, burst_of, frame_count, route_of, release_of, latest_of, link_at, from_at, to_at, IsSent, Continues}
use Rattle.tsn_model.specs.Timing.{occupancy, separation, pace, spread, shifts, transfer, hop_delay, ready_after, start, start_on, hop_arrival, arrival, hop_end, span, greatest, hop_on}
use Rattle.tsn_model.specs.Schedule.{offset_of, IsValid, flowspan, IsLag, IsConflict, Overlaps, FitsPeriod, IsReleased, IsInTime, IsFirst}
use Rattle.tsn_model.specs.Arcs.{put_in, may_meet, differences, lags_of, triples_of, is_conflict, conflicts_of, arc_between, arc_on, arc_of, arcs_of}
use Rattle.tsn_model.specs.Certificate.{late, LeadsTo, sum_on, late_bound, decided, AreChains, chain_at, Ties, AcceptsFirst}
use Rattle.std.specs.Prelude.{slice_index}
use Rattle.tsn_model.specs.Failures.{IsIntact}
use Rattle.tsn_model.specs.Lines.{nodes_along, IsLine}
use Rattle.tsn_model.specs.Examples.{star_of}
use Rattle.tsn_model.specs.RouteExamples.{multicast_streams, multicast_network, multicast_offsets, shared_branch, multicast_tree, SmallMulticast, ports_of, ports_stream, ports_network, SmallPorts}
use Rattle.tsn_model.proofs.Conflicts.{conflict_listed}
use Rattle.tsn_model.proofs.Routes.{no_slack_short}
use Rattle.tsn_model.proofs.Shifts.{first_sent}
use Rattle.tsn_model.proofs.Validity.{valid_from_parts}
use Rattle.tsn_model.proofs.Schedules.{arrival-le-flowspan}
use Rattle.tsn_model.proofs.Firsts.{accepted_first}
use Rattle.tsn_model.proofs.Branches.{follows}
use Rattle.tsn_model.proofs.Lists.{Contains-head, Contains-more, Contains-cons_cases, Contains-nil}
use Rattle.tsn_laws.proofs.Small.{all_two, procs_formed, links_formed, two_links, both_streams, all_three, pairs_three, one_chain, at_once}

-- ---- two listeners

multicast_whole : flowspan multicast_network multicast_offsets ≡ 2924
unfolding multicast_network multicast_offsets shared_branch stream_at octets_of turns_of period_of burst_of route_of release_of latest_of link_at occupancy separation pace spread shifts transfer hop_delay ready_after start start_on hop_arrival arrival hop_end span greatest hop_on flowspan
multicast_whole = refl

multicast_conflicts : conflicts_of multicast_network ≡ shared_branch ∷ []
unfolding multicast_network multicast_offsets shared_branch stream_at octets_of turns_of period_of burst_of route_of release_of latest_of link_at occupancy separation pace spread shifts transfer hop_delay ready_after start start_on hop_arrival arrival hop_end span greatest hop_on lags_of differences may_meet put_in triples_of is_conflict conflicts_of
multicast_conflicts = refl

-- C sends, the bridge hands on to A and to B
branches_formed : IsRoute (star_of 1000000 multicast_streams) (5 ∷ 1 ∷ 3 ∷ [])
unfolding link_at
branches_formed = record {
  some_link = omega arith;
  few_links = omega arith;
  links_exist = all_three (λ link. link < 6) 5 1 3 (omega arith) (omega arith) (omega arith);
  no_link_twice = pairs_three ◌≢◌ 5 1 3 (λ e. omega arith) (λ e. omega arith) (λ e. omega arith);
  links_follow = λ k below. follows (star_of 1000000 multicast_streams) (5 ∷ 1 ∷ 3 ∷ []) k (follow k below);
  none_returns = stays;
  entered_once = once;
}
  where
    follow : (k : ℕ) → k < 3
        → IsSent (star_of 1000000 multicast_streams) (5 ∷ 1 ∷ 3 ∷ []) k ⊎ ((j : ℕ) × (j < k) × Continues (star_of 1000000 multicast_streams) (5 ∷ 1 ∷ 3 ∷ []) j k)
    follow zero below = inl refl
    follow (suc zero) below = inr (0, omega arith, refl)
    follow (suc (suc zero)) below = inr (0, omega arith, refl)
    follow (suc (suc (suc k))) below = absurd (omega arith)

    stays : (k : ℕ) → k < 3 → to_at (star_of 1000000 multicast_streams) (5 ∷ 1 ∷ 3 ∷ []) k ≢ from_at (star_of 1000000 multicast_streams) (5 ∷ 1 ∷ 3 ∷ []) 0
    stays zero below same = omega arith
    stays (suc zero) below same = omega arith
    stays (suc (suc zero)) below same = omega arith
    stays (suc (suc (suc k))) below same = omega arith

    once : (j k next : ℕ) → j < k → k < 3 → next < 3
        → Continues (star_of 1000000 multicast_streams) (5 ∷ 1 ∷ 3 ∷ []) j next → Continues (star_of 1000000 multicast_streams) (5 ∷ 1 ∷ 3 ∷ []) k next → ⊥
    once zero (suc zero) next order below next_below first second = omega arith
    once zero (suc (suc zero)) next order below next_below first second = omega arith
    once (suc zero) (suc (suc zero)) next order below next_below first second = omega arith
    once j k next order below next_below first second = omega arith

-- the other stream's route
two_route : IsRoute (star_of 1000000 multicast_streams) (0 ∷ 3 ∷ [])
unfolding link_at nodes_along
two_route =
    two_links 1000000 multicast_streams 0 3 (omega arith) (omega arith) refl (pairs_three ◌≢◌ 0 3 1 (λ e. omega arith) (λ e. omega arith) (λ e. omega arith))

streams_formed : All (IsStream (star_of 1000000 multicast_streams)) multicast_streams
unfolding link_at
streams_formed zero d below = record {
  not_short = omega arith;
  not_long = omega arith;
  some_turn = omega arith;
  whole_periods = mod-one 1000000;
  some_frame = omega arith;
  short_burst = omega arith;
  route = branches_formed;
  release = omega arith;
  some_latest = omega arith;
  latest = omega arith;
}
streams_formed (suc zero) d below = record {
  not_short = omega arith;
  not_long = omega arith;
  some_turn = omega arith;
  whole_periods = mod-one 1000000;
  some_frame = omega arith;
  short_burst = omega arith;
  route = two_route;
  release = omega arith;
  some_latest = omega arith;
  latest = omega arith;
}
streams_formed (suc (suc k)) d below = absurd (omega arith)

multicast_formed : IsWellFormed multicast_network
unfolding multicast_network frame_count
multicast_formed = record {
  some_cycle = omega arith;
  short_cycle = omega arith;
  short_slack = omega arith;
  few_nodes = omega arith;
  few_links = omega arith;
  some_stream = omega arith;
  few_streams = omega arith;
  few_frames = omega arith;
  procs = procs_formed 1000000 multicast_streams;
  links = links_formed 1000000 multicast_streams;
  streams = streams_formed;
  after_start = λ i before k counted before_within within continues. no_slack_short (star_of 1000000 multicast_streams) refl
      (links_formed 1000000 multicast_streams) streams_formed i before counted before_within;
}

is_shared_branch : (triple : Triple) → IsConflict multicast_network triple → shared_branch ≡ triple
is_shared_branch triple conflict =
    let listed = conflict_listed multicast_network multicast_formed triple conflict in
    elim (Contains-cons_cases shared_branch [] triple (subst (λ ts. Contains ts triple) multicast_conflicts listed)) [
      | inl same ↦ same
      | inr none ↦ absurd (Contains-nil triple none)
    ]

branch_apart : Overlaps multicast_network multicast_offsets shared_branch → ⊥
unfolding multicast_network multicast_offsets shared_branch stream_at octets_of turns_of period_of burst_of route_of release_of latest_of link_at occupancy separation pace spread shifts transfer hop_delay ready_after start start_on hop_arrival arrival hop_end span greatest hop_on
branch_apart overlaps = omega (arith, ints, overlaps.is, overlaps.by_left.not_ended, overlaps.by_right.begun)

multicast_valid : IsValid multicast_network multicast_offsets
unfolding multicast_network multicast_offsets shared_branch stream_at octets_of turns_of period_of burst_of route_of release_of latest_of link_at occupancy separation pace spread shifts transfer hop_delay ready_after start start_on hop_arrival arrival hop_end span greatest hop_on
multicast_valid =
    valid_from_parts multicast_network multicast_offsets refl (both_streams (FitsPeriod multicast_network multicast_offsets) (omega arith) (omega arith))
    (λ triple conflict overlaps. branch_apart (subst (Overlaps multicast_network multicast_offsets) (sym (is_shared_branch triple conflict)) overlaps))
    (both_streams (IsReleased multicast_network multicast_offsets) (omega arith) (omega arith))
    (both_streams (IsInTime multicast_network multicast_offsets) (omega arith) (omega arith))

-- ---- its tree

branch_lag : IsLag multicast_network 0 1 (pos 0)
unfolding multicast_network stream_at period_of turns_of
branch_lag = record {
  first = 0;
  second = 0;
  first_sent = first_sent multicast_network 0 multicast_formed (omega arith);
  second_sent = first_sent multicast_network 1 multicast_formed (omega arith);
  is = refl;
  not_after = omega (arith, ints);
  not_before = omega (arith, ints);
}

branch_conflict : IsConflict multicast_network shared_branch
unfolding multicast_network shared_branch stream_at route_of hop_on
branch_conflict = record { ordered = omega arith; counted = omega arith; left_uses = refl; right_uses = refl; lag = branch_lag }

left_tie : Ties multicast_network (decided [] shared_branch Left) multicast_offsets (late 1 (0 ∷ [])) ([] ∷ (0 ∷ []) ∷ [])
unfolding multicast_network multicast_offsets shared_branch stream_at octets_of turns_of period_of burst_of route_of release_of latest_of link_at occupancy separation pace spread shifts transfer hop_delay ready_after start start_on hop_arrival arrival hop_end span greatest hop_on flowspan decided arcs_of arc_of arc_on arc_between sum_on late_bound
left_tie = record {
  bounded = tt;
  bound = (record { stream = omega arith; chain_to = one_chain _ 1 refl }, omega (arith, ints));
  are_chains =
      both_streams (λ i. LeadsTo multicast_network (decided [] shared_branch Left) (chain_at ([] ∷ (0 ∷ []) ∷ []) i) i)
      (record { stream = omega arith; chain_to = at_once _ 0 }) (record { stream = omega arith; chain_to = one_chain _ 1 refl });
  after = inr (refl, both_streams (λ i. sum_on multicast_network (decided [] shared_branch Left) (chain_at ([] ∷ (0 ∷ []) ∷ []) i) i ≡ pos (offset_of multicast_offsets i)) refl refl);
}

right_chains : AreChains multicast_network (decided [] shared_branch Right) ((0 ∷ []) ∷ [])
unfolding multicast_network shared_branch decided arcs_of arc_of arc_on arc_between
right_chains zero below = record { stream = omega arith; chain_to = one_chain _ 0 refl }
right_chains (suc k) below = absurd (omega arith)

right_tie : Ties multicast_network (decided [] shared_branch Right) multicast_offsets (late 0 (0 ∷ [])) ((0 ∷ []) ∷ [])
unfolding multicast_network multicast_offsets shared_branch stream_at octets_of turns_of period_of burst_of route_of release_of latest_of link_at occupancy separation pace spread shifts transfer hop_delay ready_after start start_on hop_arrival arrival hop_end span greatest hop_on flowspan decided arcs_of arc_of arc_on arc_between sum_on late_bound
right_tie = record {
  bounded = tt;
  bound = (record { stream = omega arith; chain_to = one_chain _ 0 refl }, omega (arith, ints));
  are_chains = right_chains;
  after = inl (0, omega arith, (λ i below. absurd (omega arith)), omega (arith, ints));
}

multicast_accepted : AcceptsFirst multicast_network (Some multicast_offsets) [] multicast_tree
unfolding multicast_tree
multicast_accepted = (branch_conflict, left_tie, right_tie)

-- the second branch doesn't continue the first
branches : IsLine multicast_network (route_of multicast_network 0) → ⊥
unfolding multicast_network stream_at route_of link_at
branches line = let within : 2 < 3 = omega arith in let next : ◌≡◌ {A = ℕ} 0 3 = line.links_connect 1 0 within in omega arith

pub small_multicast : SmallMulticast
unfolding multicast_network multicast_offsets shared_branch stream_at octets_of turns_of period_of burst_of route_of release_of latest_of link_at occupancy separation pace spread shifts transfer hop_delay ready_after start start_on hop_arrival arrival hop_end span greatest hop_on
small_multicast = record {
  sent = refl;
  first_copy = refl;
  second_copy = refl;
  on_branch = refl;
  first_listener = refl;
  second_listener = refl;
  arrives = refl;
  spans = refl;
  conflicts = multicast_conflicts;
  whole = multicast_whole;
  branches = branches;
  formed = multicast_formed;
  valid = multicast_valid;
  accepted = multicast_accepted;
  first = accepted_first multicast_network multicast_formed multicast_offsets multicast_valid multicast_tree multicast_accepted;
}

-- ---- two ports

ports_links : (streams : List Stream) → All (IsLink (ports_of streams)) (ports_of streams).links
ports_links streams zero d below = record { from = omega arith; to = omega arith; joins_two = λ same. omega arith; rate = inl refl; propagation = omega arith }
ports_links streams (suc zero) d below = record { from = omega arith; to = omega arith; joins_two = λ same. omega arith; rate = inr (inl refl); propagation = omega arith }
ports_links streams (suc (suc zero)) d below = record { from = omega arith; to = omega arith; joins_two = λ same. omega arith; rate = inl refl; propagation = omega arith }
ports_links streams (suc (suc (suc zero))) d below = record { from = omega arith; to = omega arith; joins_two = λ same. omega arith; rate = inr (inl refl); propagation = omega arith }
ports_links streams (suc (suc (suc (suc zero)))) d below = record { from = omega arith; to = omega arith; joins_two = λ same. omega arith; rate = inr (inl refl); propagation = omega arith }
ports_links streams (suc (suc (suc (suc (suc k))))) d below = absurd (omega arith)

ports_procs : (streams : List Stream) → All (λ proc. proc ≤ 1000000) (ports_of streams).procs
ports_procs streams zero d below = omega arith
ports_procs streams (suc zero) d below = omega arith
ports_procs streams (suc (suc zero)) d below = omega arith
ports_procs streams (suc (suc (suc zero))) d below = omega arith
ports_procs streams (suc (suc (suc (suc k)))) d below = absurd (omega arith)

ports_exist : All (λ link. link < 5) (0 ∷ 2 ∷ 1 ∷ 3 ∷ [])
ports_exist = All-cons (λ link. link < 5) 0 (2 ∷ 1 ∷ 3 ∷ []) (omega arith) (all_three (λ link. link < 5) 2 1 3 (omega arith) (omega arith) (omega arith))

ports_differ : AllPairs {X = ℕ} ◌≢◌ (0 ∷ 2 ∷ 1 ∷ 3 ∷ [])
ports_differ =
    AllPairs-cons ◌≢◌ 0 (2 ∷ 1 ∷ 3 ∷ []) (all_three (λ link. 0 ≢ link) 2 1 3 (λ e. omega arith) (λ e. omega arith) (λ e. omega arith))
    (pairs_three ◌≢◌ 2 1 3 (λ e. omega arith) (λ e. omega arith) (λ e. omega arith))

-- A sends to S and to T, each of which hands on to L
ports_route : IsRoute (ports_of (ports_stream ∷ [])) (0 ∷ 2 ∷ 1 ∷ 3 ∷ [])
unfolding link_at
ports_route = record {
  some_link = omega arith;
  few_links = omega arith;
  links_exist = ports_exist;
  no_link_twice = ports_differ;
  links_follow = λ k below. follows (ports_of (ports_stream ∷ [])) (0 ∷ 2 ∷ 1 ∷ 3 ∷ []) k (follow k below);
  none_returns = stays;
  entered_once = once;
}
  where
    follow : (k : ℕ) → k < 4
        → IsSent (ports_of (ports_stream ∷ [])) (0 ∷ 2 ∷ 1 ∷ 3 ∷ []) k ⊎ ((j : ℕ) × (j < k) × Continues (ports_of (ports_stream ∷ [])) (0 ∷ 2 ∷ 1 ∷ 3 ∷ []) j k)
    follow zero below = inl refl
    follow (suc zero) below = inr (0, omega arith, refl)
    follow (suc (suc zero)) below = inl refl
    follow (suc (suc (suc zero))) below = inr (2, omega arith, refl)
    follow (suc (suc (suc (suc k)))) below = absurd (omega arith)

    stays : (k : ℕ) → k < 4 → to_at (ports_of (ports_stream ∷ [])) (0 ∷ 2 ∷ 1 ∷ 3 ∷ []) k ≢ from_at (ports_of (ports_stream ∷ [])) (0 ∷ 2 ∷ 1 ∷ 3 ∷ []) 0
    stays zero below same = omega arith
    stays (suc zero) below same = omega arith
    stays (suc (suc zero)) below same = omega arith
    stays (suc (suc (suc zero))) below same = omega arith
    stays (suc (suc (suc (suc k)))) below same = omega arith

    -- only at L two links end, where none begins
    heard : (next : ℕ) → next < 4 → 1 ≡ from_at (ports_of (ports_stream ∷ [])) (0 ∷ 2 ∷ 1 ∷ 3 ∷ []) next → ⊥
    heard zero below same = omega arith
    heard (suc zero) below same = omega arith
    heard (suc (suc zero)) below same = omega arith
    heard (suc (suc (suc zero))) below same = omega arith
    heard (suc (suc (suc (suc k)))) below same = omega arith

    once : (j k next : ℕ) → j < k → k < 4 → next < 4
        → Continues (ports_of (ports_stream ∷ [])) (0 ∷ 2 ∷ 1 ∷ 3 ∷ []) j next → Continues (ports_of (ports_stream ∷ [])) (0 ∷ 2 ∷ 1 ∷ 3 ∷ []) k next → ⊥
    once zero (suc zero) next order below next_below first second = omega arith
    once zero (suc (suc zero)) next order below next_below first second = omega arith
    once zero (suc (suc (suc zero))) next order below next_below first second = omega arith
    once (suc zero) (suc (suc zero)) next order below next_below first second = omega arith
    once (suc zero) (suc (suc (suc zero))) next order below next_below first second = heard next next_below first
    once (suc (suc zero)) (suc (suc (suc zero))) next order below next_below first second = omega arith
    once j k next order below next_below first second = omega arith

ports_streams : All (IsStream (ports_of (ports_stream ∷ []))) (ports_stream ∷ [])
ports_streams = All-cons (IsStream (ports_of (ports_stream ∷ []))) ports_stream [] (record {
  not_short = omega arith;
  not_long = omega arith;
  some_turn = omega arith;
  whole_periods = mod-one 1000000;
  some_frame = omega arith;
  short_burst = omega arith;
  route = ports_route;
  release = omega arith;
  some_latest = omega arith;
  latest = omega arith;
}) (All-nil (IsStream (ports_of (ports_stream ∷ []))))

ports_formed : IsWellFormed ports_network
unfolding ports_network frame_count
ports_formed = record {
  some_cycle = omega arith;
  short_cycle = omega arith;
  short_slack = omega arith;
  few_nodes = omega arith;
  few_links = omega arith;
  some_stream = omega arith;
  few_streams = omega arith;
  few_frames = omega arith;
  procs = ports_procs (ports_stream ∷ []);
  links = ports_links (ports_stream ∷ []);
  streams = ports_streams;
  after_start = λ i before k counted before_within within continues. no_slack_short (ports_of (ports_stream ∷ [])) refl (ports_links (ports_stream ∷ []))
      ports_streams i before counted before_within;
}

-- what holds of one stream
one_stream : (P : ℕ → Type 0) → P 0 → (i : ℕ) → i < 1 → P i
one_stream P first zero below = first
one_stream P first (suc k) below = absurd (omega arith)

-- no two of its streams meet
ports_apart : (triple : Triple) → IsConflict ports_network triple → ⊥
unfolding ports_network
ports_apart triple conflict = let ordered = conflict.ordered in let counted = conflict.counted in omega arith

ports_valid : IsValid ports_network (0 ∷ [])
unfolding ports_network stream_at octets_of turns_of period_of burst_of route_of release_of latest_of link_at occupancy separation pace spread shifts transfer hop_delay ready_after start start_on hop_arrival arrival hop_end span greatest
ports_valid =
    valid_from_parts ports_network (0 ∷ []) refl (one_stream (FitsPeriod ports_network (0 ∷ [])) (omega arith))
    (λ triple conflict overlaps. ports_apart triple conflict)
    (one_stream (IsReleased ports_network (0 ∷ [])) (omega arith)) (one_stream (IsInTime ports_network (0 ∷ [])) (omega arith))

ports_arrives : arrival ports_network 0 ≡ 20340
unfolding ports_network stream_at octets_of turns_of period_of burst_of route_of release_of latest_of link_at occupancy separation pace spread shifts transfer hop_delay ready_after start start_on hop_arrival arrival hop_end span greatest
ports_arrives = refl

ports_whole : flowspan ports_network (0 ∷ []) ≡ 20340
unfolding ports_network stream_at octets_of turns_of period_of burst_of route_of release_of latest_of link_at occupancy separation pace spread shifts transfer hop_delay ready_after start start_on hop_arrival arrival hop_end span greatest flowspan
ports_whole = refl

ports_counted : 0 < length ports_network.streams
unfolding ports_network
ports_counted = omega arith

ports_one : length ports_network.streams ≡ 1
unfolding ports_network
ports_one = refl

-- whatever else is valid starts no sooner, and where it isn't later it is the same
ports_first : IsFirst ports_network (0 ∷ [])
ports_first = record {
  optimal = record {
    valid = ports_valid;
    least = λ other valid. let low = arrival-le-flowspan ports_network other 0 ports_counted in omega (arith, ports_whole, ports_arrives);
  };
  before_others = λ other valid same differ. absurd (differ (only other (valid.count ∙ ports_one) (at_zero other same)));
}
  where
    at_zero : (other : List ℕ) → flowspan ports_network other ≡ flowspan ports_network (0 ∷ []) → get_or other 0 0 ≡ 0
    at_zero other same = let low = arrival-le-flowspan ports_network other 0 ports_counted in omega (arith, ports_whole, ports_arrives)

    only : (other : List ℕ) → length other ≡ 1 → get_or other 0 0 ≡ 0 → other ≡ 0 ∷ []
    only [] count first = absurd (omega arith)
    only (x ∷ []) count first = ap (λ y. y ∷ []) first
    only (x ∷ y ∷ ys) count first = absurd (omega arith)

-- the one or the other of two
one_of : (a b n : ℕ) → Contains (a ∷ b ∷ []) n → (a ≡ n) ⊎ (b ≡ n)
one_of a b n has = elim (Contains-cons_cases a (b ∷ []) n has) [
  | inl first ↦ inl first
  | inr rest ↦ elim (Contains-cons_cases b [] n rest) [ inl second ↦ inr second | inr none ↦ absurd (Contains-nil n none) ]
]

neither : (a b n : ℕ) → a ≢ n → b ≢ n → Contains (a ∷ b ∷ []) n → ⊥
neither a b n first second has = elim (one_of a b n has) [ inl same ↦ first same | inr same ↦ second same ]

by_t : IsIntact (0 ∷ 2 ∷ []) ports_network (route_of ports_network 0) 3
unfolding ports_network stream_at route_of link_at
by_t = record {
  way = 2 ∷ 3 ∷ [];
  has = Contains-more 2 (3 ∷ []) 3 (Contains-head 3 []);
  closed = closed;
  whole = all_two (λ j. Contains (0 ∷ 2 ∷ []) (slice_index (0 ∷ 2 ∷ 1 ∷ 3 ∷ []) j) → ⊥) 2 3 (neither 0 2 1 (λ e. omega arith) (λ e. omega arith))
      (neither 0 2 3 (λ e. omega arith) (λ e. omega arith));
}
  where
    closed : (j next : ℕ) → j < 4 → Contains (2 ∷ 3 ∷ []) next → Continues (ports_of (ports_stream ∷ [])) (0 ∷ 2 ∷ 1 ∷ 3 ∷ []) j next → Contains (2 ∷ 3 ∷ []) j
    closed zero next below among continues = elim (one_of 2 3 next among) [
      | inl same ↦ let bad : ◌≡◌ {A = ℕ} 2 0 = subst (Continues (ports_of (ports_stream ∷ [])) (0 ∷ 2 ∷ 1 ∷ 3 ∷ []) 0) (sym same) continues in absurd (omega arith)
      | inr same ↦ let bad : ◌≡◌ {A = ℕ} 2 3 = subst (Continues (ports_of (ports_stream ∷ [])) (0 ∷ 2 ∷ 1 ∷ 3 ∷ []) 0) (sym same) continues in absurd (omega arith)
    ]
    closed (suc zero) next below among continues = elim (one_of 2 3 next among) [
      | inl same ↦ let bad : ◌≡◌ {A = ℕ} 1 0 = subst (Continues (ports_of (ports_stream ∷ [])) (0 ∷ 2 ∷ 1 ∷ 3 ∷ []) 1) (sym same) continues in absurd (omega arith)
      | inr same ↦ let bad : ◌≡◌ {A = ℕ} 1 3 = subst (Continues (ports_of (ports_stream ∷ [])) (0 ∷ 2 ∷ 1 ∷ 3 ∷ []) 1) (sym same) continues in absurd (omega arith)
    ]
    closed (suc (suc zero)) next below among continues = Contains-head 2 (3 ∷ [])
    closed (suc (suc (suc zero))) next below among continues = Contains-more 2 (3 ∷ []) 3 (Contains-head 3 [])
    closed (suc (suc (suc (suc j)))) next below among continues = absurd (omega arith)

by_s : IsIntact (1 ∷ 3 ∷ []) ports_network (route_of ports_network 0) 1
unfolding ports_network stream_at route_of link_at
by_s = record {
  way = 0 ∷ 1 ∷ [];
  has = Contains-more 0 (1 ∷ []) 1 (Contains-head 1 []);
  closed = closed;
  whole = all_two (λ j. Contains (1 ∷ 3 ∷ []) (slice_index (0 ∷ 2 ∷ 1 ∷ 3 ∷ []) j) → ⊥) 0 1 (neither 1 3 0 (λ e. omega arith) (λ e. omega arith))
      (neither 1 3 2 (λ e. omega arith) (λ e. omega arith));
}
  where
    closed : (j next : ℕ) → j < 4 → Contains (0 ∷ 1 ∷ []) next → Continues (ports_of (ports_stream ∷ [])) (0 ∷ 2 ∷ 1 ∷ 3 ∷ []) j next → Contains (0 ∷ 1 ∷ []) j
    closed zero next below among continues = Contains-head 0 (1 ∷ [])
    closed (suc zero) next below among continues = Contains-more 0 (1 ∷ []) 1 (Contains-head 1 [])
    closed (suc (suc zero)) next below among continues = elim (one_of 0 1 next among) [
      | inl same ↦ let bad : ◌≡◌ {A = ℕ} 3 0 = subst (Continues (ports_of (ports_stream ∷ [])) (0 ∷ 2 ∷ 1 ∷ 3 ∷ []) 2) (sym same) continues in absurd (omega arith)
      | inr same ↦ let bad : ◌≡◌ {A = ℕ} 3 2 = subst (Continues (ports_of (ports_stream ∷ [])) (0 ∷ 2 ∷ 1 ∷ 3 ∷ []) 2) (sym same) continues in absurd (omega arith)
    ]
    closed (suc (suc (suc zero))) next below among continues = elim (one_of 0 1 next among) [
      | inl same ↦ let bad : ◌≡◌ {A = ℕ} 1 0 = subst (Continues (ports_of (ports_stream ∷ [])) (0 ∷ 2 ∷ 1 ∷ 3 ∷ []) 3) (sym same) continues in absurd (omega arith)
      | inr same ↦ let bad : ◌≡◌ {A = ℕ} 1 2 = subst (Continues (ports_of (ports_stream ∷ [])) (0 ∷ 2 ∷ 1 ∷ 3 ∷ []) 3) (sym same) continues in absurd (omega arith)
    ]
    closed (suc (suc (suc (suc j)))) next below among continues = absurd (omega arith)

-- A to S and to T, T to S, and on from S: S is entered twice
ring_refused : IsRoute ports_network (0 ∷ 1 ∷ 4 ∷ 2 ∷ []) → ⊥
unfolding ports_network link_at
ring_refused route = route.entered_once 0 2 3 (omega arith) (omega arith) (omega arith) refl refl

pub small_ports : SmallPorts
unfolding ports_network stream_at octets_of turns_of period_of burst_of route_of release_of latest_of link_at occupancy separation pace spread shifts transfer hop_delay ready_after start start_on hop_arrival arrival hop_end span greatest
small_ports = record {
  paces = refl;
  sent_to_s = refl;
  by_s = refl;
  sent_to_t = refl;
  by_t = refl;
  heard_by_s = refl;
  heard_by_t = refl;
  arrives = refl;
  spans = refl;
  formed = ports_formed;
  first = ports_first;
  without_s = by_t;
  without_t = by_s;
  refused = ring_refused;
}
