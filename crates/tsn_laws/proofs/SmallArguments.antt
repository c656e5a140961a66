-- The small network's arguments.
use Rattle.std.proofs.Common.{◌≡◌, ◌≢◌, ℕ, zero, suc, [], ◌∷◌, get_or, ℤ, Contains, refl, ap, List, arith, inl, inr, pos, ◌≤ℤ◌}
use Rattle.std.specs.Prelude.{int_le, ◌&&◌, true}
use Rattle.std.proofs.lemmas.Int.{ints}
use Rattle.std.proofs.lemmas.Bool.{and_parts}
use Rattle.std.proofs.lemmas.List.Elements.{All-nil, All-cons}
use Rattle.tsn_model.specs.declared.Frame.{Frame}
use Rattle.tsn_model.specs.Network.{Network, stream_count, IsWellFormed, stream_at, period_of, turns_of, burst_of, octets_of, route_of, release_of, latest_of, link_at}
use Rattle.tsn_model.specs.Timing.{occupancy, separation, transfer, hop_delay, pace, spread, ready_after, start, hop_arrival, arrival, hop_end, span, greatest, hop_on, start_on, UsesLink}
use Rattle.tsn_model.specs.Schedule.{offset_of, flowspan, latest_offset}
use Rattle.tsn_model.specs.Arcs.{arc_between, arc_on, arc_of}
use Rattle.tsn_model.specs.Certificate.{least, IsFrameOn, begin_on, end_on}
use Rattle.tsn_model.specs.Search.{side_eq, decision_eq}
use Rattle.tsn_model.specs.Argument.{goal_first, goal_least, goal_none, order, done_from, IsFact, IsImpossible, other_side, turned, opposite, learned, learned_all, refuting, contradicts, left_open, unit_of, head_at, end_at, most, first_head, last_end, work_on, AreOn, AreSome, weight_by, shown_by, shown, narrowed, greatest_flowspan, first_ground, capped, settled, begun, ended, known_with, known_after, IsInQuestion, Step, Argues}
use Rattle.tsn_model.specs.Examples.{first_frame, star_network, small_network, short_network, shared, small_offsets, left_goes, right_goes, first_steps, least_steps, none_steps, far_steps, early_steps, SmallArguments}
use Rattle.tsn_model.proofs.Lists.{Contains-head, Contains-more}
use Rattle.tsn_laws.proofs.Small.{both_streams, all_two, one_alone, pairs_two, small_formed, short_formed, small_valid, shared_conflict, first_on, frames_differ}
use Rattle.tsn_model.proofs.Arguments.{int_le-true, argues, plan_alone, argued_none}

two_on : (cycle : ℕ) (a b : Frame) → a ≢ b → IsFrameOn (star_network cycle) 4 a → IsFrameOn (star_network cycle) 4 b → AreOn (star_network cycle) 4 (a ∷ b ∷ [])
two_on cycle a b differ a_on b_on = record { different = pairs_two ◌≢◌ a b differ; on_link = all_two (IsFrameOn (star_network cycle) 4) a b a_on b_on }

uses : (cycle : ℕ) → UsesLink (star_network cycle) 0 4 × UsesLink (star_network cycle) 1 4
unfolding stream_at route_of hop_on
uses cycle = (refl, refl)

pub forth : (cycle : ℕ) → IsWellFormed (star_network cycle) → AreOn (star_network cycle) 4 (first_frame 0 ∷ first_frame 1 ∷ [])
forth cycle formed =
    two_on cycle (first_frame 0) (first_frame 1) (frames_differ 0 1 (λ same. omega arith)) (first_on cycle 0 formed (omega arith) (uses cycle).0)
    (first_on cycle 1 formed (omega arith) (uses cycle).1)

pub back : (cycle : ℕ) → IsWellFormed (star_network cycle) → AreOn (star_network cycle) 4 (first_frame 1 ∷ first_frame 0 ∷ [])
back cycle formed =
    two_on cycle (first_frame 1) (first_frame 0) (frames_differ 1 0 (λ same. omega arith)) (first_on cycle 1 formed (omega arith) (uses cycle).1)
    (first_on cycle 0 formed (omega arith) (uses cycle).0)

all_some : (frame : Frame) → AreSome (frame ∷ []) (frame ∷ [])
all_some frame = record {
  one = omega arith;
  different = one_alone ◌≢◌ frame;
  among = All-cons (Contains (frame ∷ [])) frame [] (Contains-head frame []) (All-nil (Contains (frame ∷ [])));
}

-- a view of two streams that isn't impossible
pub is_open : (network : Network) (a b c d e f : ℤ) → stream_count network ≡ 2 → (int_le a c && int_le b d && int_le e f) ≡ true
    → IsImpossible network (record { low = a ∷ b ∷ []; high = c ∷ d ∷ []; orders = []; done_low = e; done_high = f }) → ⊥
is_open network a b c d e f two known impossible =
    let parts = and_parts (int_le a c && int_le b d) (int_le e f) known in
    let streams = and_parts (int_le a c) (int_le b d) parts.0 in
    let first = int_le-true a c streams.0 in
    let second = int_le-true b d streams.1 in
    let done = int_le-true e f parts.1 in
    crossing impossible first second done
  where
    crossing : IsImpossible network (record { low = a ∷ b ∷ []; high = c ∷ d ∷ []; orders = []; done_low = e; done_high = f }) → a ≤ℤ c
        → b ≤ℤ d → e ≤ℤ f → ⊥
    crossing (inl (zero, below, crossed)) first second done = omega (arith, ints)
    crossing (inl (suc zero, below, crossed)) first second done = omega (arith, ints)
    crossing (inl (suc (suc k), below, crossed)) first second done = omega arith
    crossing (inr past) first second done = omega (arith, ints)

first_argued : Argues small_network (goal_first small_offsets) first_steps
unfolding first_steps small_network small_offsets stream_at octets_of route_of release_of latest_of link_at occupancy separation transfer hop_delay start arrival hop_end span greatest start_on flowspan least opposite learned learned_all head_at end_at most first_head last_end work_on shown narrowed latest_offset greatest_flowspan first_ground capped settled begun ended known_with known_after spread burst_of pace period_of begin_on end_on turns_of ready_after hop_arrival
first_argued = (
  record {
    open_ground = is_open small_network _ _ _ _ _ _ refl refl;
    facts = All-cons (IsFact small_network) (done_from _) [] tt (All-nil (IsFact small_network));
    moves = (
      is_open small_network _ _ _ _ _ _ refl refl,
      omega arith,
      (
        is_open small_network _ _ _ _ _ _ refl refl,
        omega arith,
        (is_open small_network _ _ _ _ _ _ refl refl, (forth 1000000 small_formed, all_some (first_frame 1), omega (arith, ints)), tt),
      ),
    );
    shows = inr (inl (0, omega arith, omega (arith, ints)));
  },
  (
    record {
      open_ground = is_open small_network _ _ _ _ _ _ refl refl;
      facts = All-nil (IsFact small_network);
      moves = (is_open small_network _ _ _ _ _ _ refl refl, (back 1000000 small_formed, all_some (first_frame 0), omega (arith, ints)), tt);
      shows = inl refl;
    },
    inr (
      omega (arith, ints),
      both_streams (λ i. pos (offset_of (0 ∷ 672 ∷ []) i) ≤ℤ get_or (pos 0 ∷ pos 672 ∷ []) i (pos 0)) (omega (arith, ints)) (omega (arith, ints)),
    ),
  ),
)

none_argued : Argues short_network goal_none none_steps
unfolding none_steps short_network stream_at octets_of route_of release_of latest_of link_at occupancy separation transfer hop_delay start arrival hop_end span greatest start_on least learned learned_all refuting head_at end_at most first_head last_end work_on shown narrowed latest_offset greatest_flowspan first_ground settled begun ended known_with known_after spread burst_of pace period_of begin_on end_on turns_of ready_after hop_arrival
none_argued = (
  record {
    open_ground = is_open short_network _ _ _ _ _ _ refl refl;
    facts = All-nil (IsFact short_network);
    moves = (is_open short_network _ _ _ _ _ _ refl refl, (forth 2969 short_formed, omega (arith, ints)), tt);
    shows = inl refl;
  },
  inl (inr (omega (arith, ints))),
)

least_argued : Argues small_network (goal_least small_offsets) least_steps
unfolding least_steps left_goes right_goes small_network shared small_offsets stream_at octets_of route_of release_of latest_of link_at occupancy separation transfer hop_delay start arrival hop_end span greatest start_on flowspan arc_of arc_on arc_between decision_eq side_eq other_side turned opposite learned learned_all refuting contradicts left_open unit_of weight_by shown_by shown narrowed latest_offset greatest_flowspan first_ground settled begun ended known_with known_after spread burst_of pace period_of begin_on end_on turns_of ready_after hop_arrival
least_argued = (
  record {
    open_ground = is_open small_network _ _ _ _ _ _ refl refl;
    facts = all_two (IsFact small_network) (order right_goes) (order left_goes) shared_conflict shared_conflict;
    moves = (
      is_open small_network _ _ _ _ _ _ refl refl,
      (
        all_two (Contains (left_goes ∷ right_goes ∷ [])) left_goes right_goes (Contains-head left_goes (right_goes ∷ []))
            (Contains-more left_goes (right_goes ∷ []) right_goes (Contains-head right_goes [])),
        (0, (refl, (refl, refl))),
        omega (arith, ints),
      ),
      tt,
    );
    shows = inr (inr (omega (arith, ints)));
  },
  (
    record {
      open_ground = is_open small_network _ _ _ _ _ _ refl refl;
      facts = All-nil (IsFact small_network);
      moves = (
        is_open small_network _ _ _ _ _ _ refl refl,
        omega arith,
        (
          is_open small_network _ _ _ _ _ _ refl refl,
          omega arith,
          (
            is_open small_network _ _ _ _ _ _ refl refl,
            (shared_conflict, omega (arith, ints)),
            (
              is_open small_network _ _ _ _ _ _ refl refl,
              (omega arith, omega arith),
              (is_open small_network _ _ _ _ _ _ refl refl, Contains-head left_goes (left_goes ∷ []), tt),
            ),
          ),
        ),
      );
      shows = inl refl;
    },
    inl (inl (1, omega arith, omega (arith, ints))),
  ),
)

-- both streams are done by 2970, and need no longer
too_far : Argues small_network (goal_first small_offsets) far_steps → ⊥
unfolding far_steps small_network small_offsets stream_at octets_of route_of release_of latest_of link_at occupancy separation transfer hop_delay start arrival hop_end span greatest start_on flowspan least opposite learned learned_all head_at end_at most first_head last_end work_on shown narrowed latest_offset greatest_flowspan first_ground settled begun spread burst_of pace period_of begin_on end_on turns_of ready_after hop_arrival
too_far argued =
    let last = argued.0.moves.2.2.1.2 in
    absurd (omega (arith, ints, last))

-- the first clause has number 0
too_early : Argues small_network (goal_least small_offsets) early_steps → ⊥
unfolding early_steps known_with known_after
too_early argued =
    absurd (omega arith)

too_long : Argues (star_network 2970) goal_none none_steps → ⊥
unfolding none_steps stream_at octets_of route_of release_of latest_of link_at occupancy separation transfer hop_delay start arrival hop_end span greatest start_on least learned_all head_at end_at most first_head last_end work_on latest_offset greatest_flowspan first_ground begun spread burst_of pace period_of begin_on end_on turns_of ready_after hop_arrival
too_long argued =
    let room = argued.0.moves.1.1 in
    absurd (omega (arith, ints, room))

-- the small network's plan comes before the other one of its flowspan
before_later : IsInQuestion small_network (goal_first (672 ∷ 0 ∷ [])) small_offsets
unfolding small_network small_offsets stream_at octets_of route_of link_at occupancy separation transfer hop_delay start arrival greatest flowspan spread burst_of pace start_on ready_after hop_arrival
before_later = record { valid = small_valid; against = inr (refl, inr (0, omega arith, omega arith, refl, omega arith)) }

later : (steps : List Step) → Argues small_network (goal_first (672 ∷ 0 ∷ [])) steps → ⊥
unfolding small_offsets
later steps argued =
    let found = argues small_network small_formed (goal_first (672 ∷ 0 ∷ [])) small_offsets before_later steps argued in
    let same = plan_alone small_network (672 ∷ 0 ∷ []) small_offsets before_later found.view found.fits found.settles in
    let first : offset_of small_offsets 0 ≡ offset_of (672 ∷ 0 ∷ []) 0 = ap (λ offsets. offset_of offsets 0) same in
    absurd (omega arith)

-- and undercuts one whose second stream starts 1 ns later
undercuts : IsInQuestion small_network (goal_least (0 ∷ 673 ∷ [])) small_offsets
unfolding small_network small_offsets stream_at octets_of route_of link_at occupancy separation transfer hop_delay start arrival greatest flowspan spread burst_of pace start_on ready_after hop_arrival
undercuts = record { valid = small_valid; against = omega arith }

pub small_arguments : SmallArguments
small_arguments = record {
  first = first_argued;
  least = least_argued;
  none = none_argued;
  too_far = too_far;
  too_early = too_early;
  too_long = too_long;
  later = later;
  undercut = λ steps argued. (argues small_network small_formed (goal_least (0 ∷ 673 ∷ [])) small_offsets undercuts steps argued).settles;
  planned = λ steps argued. (argued_none small_network small_formed steps argued).none small_offsets small_valid;
}
