-- The small network's rooms.
use Rattle.std.proofs.Common.{◌≡◌, ℕ, zero, suc, ◌+◌, ◌-◌, ◌*◌, ◌≤◌, ◌<◌, List, [], ◌∷◌, leb, cond, true, false, All, Contains, ◌∙◌, refl, arith, pos}
use Rattle.std.proofs.lemmas.Int.{ints}
use Rattle.std.proofs.lemmas.Bool.{cond-true, cond-false, le-leb}
use Rattle.std.proofs.lemmas.List.Elements.{All-nil, All-cons, All-head, All-tail}
use Rattle.tsn_model.specs.Network.{stream_at, octets_of, route_of, link_at, burst_of, period_of, turns_of}
use Rattle.tsn_model.specs.Timing.{occupancy, separation, transfer, hop_delay, pace, spread, ready_after, start, start_on, greatest}
use Rattle.tsn_model.specs.Certificate.{least, begin_on, end_on}
use Rattle.tsn_model.specs.Argument.{head_at, end_at, most, first_head, last_end, work_on, natural, reaches, filled, wasted, divisor_within, common_divisor, inserted, arranged, staged, unit_on, idle_on, may_lie, from_left, from_right, works_left, works_right, left_over, right_over, left_edge, right_edge, IsShut, lost}
use Rattle.tsn_model.specs.Examples.{first_frame, small_network, between, SmallRooms}
use Rattle.tsn_model.proofs.Lists.{Contains-head}
use Rattle.tsn_laws.proofs.Small.{small_formed}
use Rattle.tsn_laws.proofs.SmallArguments.{forth, back}

-- an amount below each work isn't reached
unreached : (works : List (ℕ × ℕ)) (amount : ℕ) → All (λ work. amount < work.1) works → 0 < amount → reaches works amount ≡ false
unfolding reaches
unreached [] amount above some = grind arith
unreached (work ∷ works) amount above some =
    let rest = unreached works amount (All-tail (λ work. amount < work.1) work works above) some in
    let more = All-head (λ work. amount < work.1) work works above in
    cond-false (reaches works amount) true (cond (leb (work.0 + work.1) amount) (reaches works (amount - work.1)) false) rest
    ∙ cond-false (leb (work.0 + work.1) amount) (reaches works (amount - work.1)) false (grind arith)

unfilled : (works : List (ℕ × ℕ)) (room : ℕ) → All (λ work. room < work.1) works → filled works room ≡ 0
unfolding filled
unfilled works zero above = refl
unfilled works (suc room) above =
    cond-false (reaches works (suc room)) (suc room) (filled works room) (unreached works (suc room) above (omega arith))
    ∙ unfilled works room (λ k d below. let more = above k d below in omega arith)

-- so all of a room that is smaller than each work is wasted
all_wasted : (unit : ℕ) (works : List (ℕ × ℕ)) (room : ℕ) → All (λ work. room < work.1) works → room ≤ 4096 * unit → wasted unit works room ≡ room
unfolding wasted
all_wasted unit works room above within =
    let none = unfilled works room above in
    cond-true (leb room (4096 * unit)) (room - filled works room) 0 (le-leb room (4096 * unit) within) ∙ omega arith

two_works : (room a b : ℕ) → room < 672 → All (λ (work : ℕ × ℕ). room < work.1) ((a, 672) ∷ (b, 672) ∷ [])
two_works room a b below =
    All-cons (λ (work : ℕ × ℕ). room < work.1) (a, 672) ((b, 672) ∷ []) below
    (All-cons (λ (work : ℕ × ℕ). room < work.1) (b, 672) [] below (All-nil (λ (work : ℕ × ℕ). room < work.1)))

goes_last : (x : ℕ) → 1627 ≤ x → x < 2298
    → IsShut small_network (between (pos 0 ∷ pos 1 ∷ []) (pos 672 ∷ pos 672 ∷ [])) 4 (first_frame 1 ∷ first_frame 0 ∷ []) 1626 2970 672 x
unfolding small_network stream_at octets_of route_of link_at occupancy separation transfer hop_delay start start_on spread burst_of pace period_of turns_of greatest ready_after begin_on end_on head_at end_at least most first_head last_end work_on natural divisor_within common_divisor inserted arranged staged unit_on idle_on may_lie from_left from_right works_left works_right left_over right_over left_edge right_edge lost
goes_last x above below =
    let left = all_wasted 672 ((1, 672) ∷ (0, 672) ∷ []) (x - 1626) (two_works (x - 1626) 1 0 (omega arith)) (omega arith) in
    let right = all_wasted 672 ((0, 672) ∷ (0, 672) ∷ []) (2970 - (x + 672)) (two_works (2970 - (x + 672)) 0 0 (omega arith)) (omega arith) in
    record { begin = omega arith; end = omega arith; full = omega arith }

goes_first : (x : ℕ) → 2298 < x + 672 → x + 672 ≤ 2969
    → IsShut small_network (between (pos 0 ∷ pos 0 ∷ []) (pos 671 ∷ pos 672 ∷ [])) 4 (first_frame 0 ∷ first_frame 1 ∷ []) 1626 2970 672 x
unfolding small_network stream_at octets_of route_of link_at occupancy separation transfer hop_delay start start_on spread burst_of pace period_of turns_of greatest ready_after begin_on end_on head_at end_at least most first_head last_end work_on natural divisor_within common_divisor inserted arranged staged unit_on idle_on may_lie from_left from_right works_left works_right left_over right_over left_edge right_edge lost
goes_first x above below =
    let left = all_wasted 672 ((0, 672) ∷ (0, 672) ∷ []) (x - 1626) (two_works (x - 1626) 0 0 (omega arith)) (omega arith) in
    let right = all_wasted 672 ((1, 672) ∷ (0, 672) ∷ []) (2970 - (x + 672)) (two_works (2970 - (x + 672)) 1 0 (omega arith)) (omega arith) in
    record { begin = omega arith; end = omega arith; full = omega arith }

pub small_rooms : SmallRooms
unfolding small_network stream_at octets_of route_of link_at occupancy separation transfer hop_delay start start_on spread burst_of pace period_of turns_of greatest ready_after begin_on end_on head_at end_at least most first_head last_end work_on natural divisor_within common_divisor inserted arranged staged unit_on idle_on may_lie from_left from_right works_left works_right left_over right_over left_edge right_edge lost filled reaches wasted
small_rooms = record {
  last = (back 1000000 small_formed, tt, tt, goes_last);
  too_far = λ allowed. let full = (allowed.3 2298 (omega arith) (omega arith)).full in omega arith;
  either = λ allowed. let full = (allowed.3 1626 (omega arith) (omega arith)).full in omega arith;
  first = (forth 1000000 small_formed, tt, tt, goes_first);
  empty = (
    forth 1000000 small_formed,
    All-cons (Contains (first_frame 0 ∷ first_frame 1 ∷ [])) (first_frame 0) [] (Contains-head (first_frame 0) (first_frame 1 ∷ []))
        (All-nil (Contains (first_frame 0 ∷ first_frame 1 ∷ []))),
    (omega (arith, ints), omega arith, tt),
    omega arith,
  );
  full = λ allowed. let past = allowed.3 in omega arith;
}
