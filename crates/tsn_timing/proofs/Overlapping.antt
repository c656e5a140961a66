-- Overlaps of two streams on a link, by the lags between two numbers.
use Rattle.std.proofs.Common.{◌≡◌, ℕ, ◌+◌, ◌<◌, ◌≤◌, ℤ, pos, neg_ℤ, max, List, Option, Some, None, MatchOption, arith}
use Rattle.std.specs.Prelude.{◌+ℤ◌, ◌-ℤ◌, ◌<ℤ◌}
use Rattle.std.specs.Int.{int_max, int_min}
use Rattle.std.proofs.lemmas.Int.{ints, clamps}
use Rattle.tsn_model.specs.Network.{Network, IsWellFormed, stream_count, period_of}
use Rattle.tsn_model.specs.Timing.{separation, UsesLink, start_on}
use Rattle.tsn_model.specs.Schedule.{offset_of}
use Rattle.tsn_model.proofs.Routes.{separation-pos}
use Rattle.tsn_timing.specs.Judgement.{IsBetween, IsLeastBetween, IsOverlapOf, AreApartOn, IsLeastOverlap}

module _ (network : Network) (offsets : List ℕ) (left right link first second : ℕ) (low high : ℤ) where
  -- both streams use the link, their first frames start on it at these instants, and these are the bounds of the lags that overlap there
  pub record AreBounds : Type 0 where
    pub formed : IsWellFormed network
    pub ordered : left < right
    pub counted : right < stream_count network
    pub left_uses : UsesLink network left link
    pub right_uses : UsesLink network right link
    pub first_is : first ≡ offset_of offsets left + start_on network left link
    pub second_is : second ≡ offset_of offsets right + start_on network right link
    pub low_is : low ≡ int_max ((pos first -ℤ pos second) -ℤ pos (separation network right link)) (neg_ℤ (pos (period_of network right)))
    pub high_is : high ≡ int_min ((pos first -ℤ pos second) +ℤ pos (separation network left link)) (pos (period_of network left))

  between_of : AreBounds → (lag : ℤ) → IsOverlapOf network offsets left right link lag → IsBetween network left right low high lag
  between_of bounds lag overlap =
      let frames = overlap.1 in
      let is = frames.is in
      let left_begun = frames.by_left.begun in
      let left_ends = frames.by_left.not_ended in
      let right_begun = frames.by_right.begun in
      let right_ends = frames.by_right.not_ended in
      let not_after = overlap.0.lag.not_after in
      let not_before = overlap.0.lag.not_before in
      let first_is = bounds.first_is in
      let second_is = bounds.second_is in
      let low_is = bounds.low_is in
      let high_is = bounds.high_is in
      record {
        first = frames.left;
        sent = frames.left_sent;
        after = record {
          second = frames.right;
          sent = frames.right_sent;
          is = is;
          above = omega (arith, ints, clamps, low_is, is, left_begun, right_ends, not_before, first_is, second_is);
          below = omega (arith, ints, clamps, high_is, is, right_begun, left_ends, not_after, first_is, second_is);
        };
      }

  overlap_of : AreBounds → (lag : ℤ) → IsBetween network left right low high lag → IsOverlapOf network offsets left right link lag
  overlap_of bounds lag between =
      let is = between.after.is in
      let above = between.after.above in
      let below = between.after.below in
      let low_is = bounds.low_is in
      let high_is = bounds.high_is in
      let left_some = separation-pos network left link in
      let right_some = separation-pos network right link in
      let after : (lag <ℤ ((pos first -ℤ pos second) +ℤ pos (separation network left link))) × (lag <ℤ pos (period_of network left)) =
      (omega (arith, ints, clamps, high_is, below), omega (arith, ints, clamps, high_is, below)) in
      let before : (((pos first -ℤ pos second) -ℤ pos (separation network right link)) <ℤ lag) × (pos 0 <ℤ (lag +ℤ pos (period_of network right))) =
      (omega (arith, ints, clamps, low_is, above), omega (arith, ints, clamps, low_is, above)) in
      let right_in : second + between.after.second + 1 ≤ first + between.first + separation network left link = let near = after.0 in omega
      (arith, ints, is, near) in
      let left_in : first + between.first + 1 ≤ second + between.after.second + separation network right link = let near = before.0 in omega
      (arith, ints, is, near) in (
        grind arith,
        record {
          left = between.first;
          right = between.after.second;
          left_sent = between.sent;
          right_sent = between.after.sent;
          is = is;
          instant = max (first + between.first) (second + between.after.second);
          by_left = record { begun = omega arith; not_ended = omega arith };
          by_right = record { begun = omega arith; not_ended = omega arith };
        },
      )

  pub judged : AreBounds → (found : Option ℤ)
      → MatchOption found ((lag : ℤ) → IsBetween network left right low high lag → ⊥) (IsLeastBetween network left right low high)
      → MatchOption found (AreApartOn network offsets left right link) (IsLeastOverlap network offsets left right link)
  judged bounds None none = λ lag overlap. none lag (between_of bounds lag overlap)
  judged bounds (Some lag) least =
      record { overlap = overlap_of bounds lag least.between; least = λ other overlap. least.least other (between_of bounds other overlap) }
