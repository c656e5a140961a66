-- Places in a room, as tables of sums tell of them.
use Rattle.std.proofs.Common.{◌≡◌, ℕ, ◌+◌, ◌-◌, ◌≤◌, ◌<◌, List, Bool, true, false, Option, Some, None, refl, sym, ap, ◌∙◌, subst, arith}
use Rattle.std.specs.Prelude.{MatchOption}
use Rattle.tsn_model.specs.declared.Frame.{Frame}
use Rattle.tsn_model.specs.Network.{Network}
use Rattle.tsn_model.specs.Argument.{View, wasted, unit_on, idle_on, works_left, works_right, left_over, right_over, IsShut}
use Rattle.tsn_sums.specs.Places.{IsFull, AreFull}
use Rattle.tsn_sums.specs.Places as sums
use Rattle.tsn_argue.specs.Faults.{AreShut, IsFirstOpen}

module _ (network : Network) (view : View) (link : ℕ) (frames : List Frame) (low high work : ℕ) (unit idle : ℕ) (left right : List (ℕ × ℕ))
    (unit_is : unit ≡ unit_on network link frames) (idle_is : idle ≡ idle_on network view link frames)
    (left_is : left ≡ works_left network view link frames low high) (right_is : right ≡ works_right network view link frames low high) where
  left_same : (room : ℕ) → wasted unit left room ≡ left_over network view link frames low high room
  unfolding left_over
  left_same room = λ i. wasted (unit_is i) (left_is i) room

  right_same : (room : ℕ) → wasted unit right room ≡ right_over network view link frames low high room
  unfolding right_over
  right_same room = λ i. wasted (unit_is i) (right_is i) room

  shut_from : (x : ℕ) → IsFull unit left right idle low high work x → IsShut network view link frames low high work x
  shut_from x full =
      let more = full.full in
      let before = left_same (x - low) in
      let after = right_same (high - (x + work)) in
      record { begin = full.begin; end = full.end; full = omega (arith, more, before, after, idle_is) }

  full_from : (x : ℕ) → IsShut network view link frames low high work x → IsFull unit left right idle low high work x
  full_from x shut =
      let more = shut.full in
      let before = left_same (x - low) in
      let after = right_same (high - (x + work)) in
      record { begin = shut.begin; end = shut.end; full = omega (arith, more, before, after, idle_is) }

  pub found : (from until : ℕ) (result : Option ℕ)
      → MatchOption result (AreFull unit left right idle low high work from until) (sums.IsFirstOpen unit left right idle low high work from until)
      → MatchOption result (AreShut network view link frames low high work from until) (IsFirstOpen network view link frames low high work from until)
  found from until None full = λ x after below. shut_from x (full x after below)
  found from until (Some place) first = record {
    after = first.after;
    within = first.within;
    before = λ x after below. shut_from x (first.before x after below);
    opens = λ shut. first.opens (full_from place shut);
  }
