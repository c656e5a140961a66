-- Where the two frames of a triple meet, by the uses that are kept: an overlap of any network that they are kept of.
use Rattle.std.proofs.Common.{◌≡◌, ℕ, ◌<◌, ℤ, pos, List, length, get_or, All, sym, subst, arith}
use Rattle.std.specs.Prelude.{◌-ℤ◌, ◌<ℤ◌}
use Rattle.std.proofs.lemmas.Int.{ints}
use Rattle.std.proofs.lemmas.List.Elements.{Contains-get_or}
use Rattle.tsn_model.specs.declared.Triple.{Triple}
use Rattle.tsn_model.specs.Network.{Network, stream_count}
use Rattle.tsn_model.specs.Arcs.{arc_between, arc_on}
use Rattle.tsn_model.specs.Timing.{separation, start_on}
use Rattle.tsn_model.specs.Schedule.{IsConflict, Overlaps, offset_of}
use Rattle.tsn_model.proofs.Overlaps.{overlap_from}
use Rattle.tsn_conflict.specs.declared.uses.Use.{Use}
use Rattle.tsn_conflict.specs.declared.pairs.Pair.{Pair}
use Rattle.tsn_conflict.specs.Kept.{Kept, use_in, AreConflictsOf}
use Rattle.tsn_conflict.specs.Raised.{triple_at}
use Rattle.tsn_conflict.specs.Pairs.{IsInUses, IsPairBelow, Meets, pair_in}
use Rattle.tsn_conflict.proofs.Reading.{Reads, Reads-used}
use Rattle.tsn_conflict.proofs.Listed.{conflict_kept, lag_bounds}

-- ---- by the uses of a network

module _ (network : Network) (kept : Kept) (is : AreConflictsOf network kept) where
  pub conflict_at : (number : ℕ) → number < length kept.triples → IsConflict network (triple_at kept.triples number)
  conflict_at number below = conflict_kept network kept _ is (Contains-get_or kept.triples number _ below)

  -- what is kept of a triple's two uses is what the network has
  record IsRead (triple : Triple) : Type 0 where
    left : Reads network kept.uses triple.left triple.link
    right : Reads network kept.uses triple.right triple.link
    left_start : (use_in kept.uses triple.left triple.link).start ≡ start_on network triple.left triple.link
    left_separation : (use_in kept.uses triple.left triple.link).separation ≡ separation network triple.left triple.link
    right_start : (use_in kept.uses triple.right triple.link).start ≡ start_on network triple.right triple.link
    right_separation : (use_in kept.uses triple.right triple.link).separation ≡ separation network triple.right triple.link

  read : (triple : Triple) → IsConflict network triple → IsRead triple
  read triple conflict =
      let left = Reads-used network kept.uses triple.left triple.link is.formed is.uses conflict.left_uses in
      let right = Reads-used network kept.uses triple.right triple.link is.formed is.uses conflict.right_uses in
      grind arith

  pub in_uses : (triple : Triple) → IsConflict network triple → IsInUses kept.uses triple
  in_uses triple conflict =
      let found = read triple conflict in
      let few = is.few in
      let bounds = lag_bounds network triple is.formed conflict in
      grind arith

  pub all_in_uses : All (IsInUses kept.uses) kept.triples
  all_in_uses = λ k d below. in_uses _ (conflict_kept network kept _ is (Contains-get_or kept.triples k d below))

  pub all_pairs_below : (streams : ℕ) → streams ≡ stream_count network → All (IsPairBelow streams) kept.triples
  all_pairs_below streams count = λ k d below.
      let conflict = conflict_kept network kept _ is (Contains-get_or kept.triples k d below) in
      record { ordered = conflict.ordered; counted = subst (λ n. (get_or kept.triples k d).right < n) (sym count) conflict.counted }

  pub meets_from : (offsets : List ℕ) (triple : Triple) → IsConflict network triple → Overlaps network offsets triple → Meets kept.uses offsets triple
  meets_from offsets triple conflict overlaps =
      let found = read triple conflict in
      let lag = overlaps.is in
      let left_start = found.left_start in
      let left_separation = found.left_separation in
      let right_start = found.right_start in
      let right_separation = found.right_separation in
      let left_begun = overlaps.by_left.begun in
      let left_ends = overlaps.by_left.not_ended in
      let right_begun = overlaps.by_right.begun in
      let right_ends = overlaps.by_right.not_ended in
      record {
        left_begun = omega (arith, ints, lag, left_start, right_start, right_separation, left_begun, right_ends);
        right_begun = omega (arith, ints, lag, left_start, right_start, left_separation, right_begun, left_ends);
      }

  pub overlaps_from : (offsets : List ℕ) (triple : Triple) → IsConflict network triple → Meets kept.uses offsets triple → Overlaps network offsets triple
  unfolding arc_on arc_between
  overlaps_from offsets triple conflict meets =
      let found = read triple conflict in
      let left_start = found.left_start in
      let left_separation = found.left_separation in
      let right_start = found.right_start in
      let right_separation = found.right_separation in
      let left_begun = meets.left_begun in
      let right_begun = meets.right_begun in
      overlap_from network offsets triple is.formed conflict
      (λ holds. omega (arith, ints, holds, left_start, left_separation, right_start, right_begun))
      (λ holds. omega (arith, ints, holds, left_start, right_start, right_separation, left_begun))

-- ---- by the bounds of the gap of the offsets

pub pair_in-left : (uses : List (List Use)) (triple : Triple) → (pair_in uses triple).left ≡ triple.left
unfolding pair_in
pair_in-left uses triple = omega arith

pub pair_in-right : (uses : List (List Use)) (triple : Triple) → (pair_in uses triple).right ≡ triple.right
unfolding pair_in
pair_in-right uses triple = omega arith

module _ (uses : List (List Use)) (offsets : List ℕ) (triple : Triple) (gap : ℤ) where
  -- the gap is the left offset less the right one
  abbrev pub IsGap : Type 0
  IsGap = gap ≡ pos (offset_of offsets triple.left) -ℤ pos (offset_of offsets triple.right)

  pub gap_meets : IsGap → (pair_in uses triple).above <ℤ gap → gap <ℤ (pair_in uses triple).below → Meets uses offsets triple
  unfolding pair_in
  gap_meets is above below = record { left_begun = omega (arith, ints, is, below); right_begun = omega (arith, ints, is, above) }

  pub meets_above : IsGap → Meets uses offsets triple → (pair_in uses triple).above <ℤ gap
  unfolding pair_in
  meets_above is meets = let begun = meets.right_begun in omega (arith, ints, is, begun)

  pub meets_below : IsGap → Meets uses offsets triple → gap <ℤ (pair_in uses triple).below
  unfolding pair_in
  meets_below is meets = let begun = meets.left_begun in omega (arith, ints, is, begun)

-- the gap that is computed of a pair's offsets
pub IsGap-from : (uses : List (List Use)) (offsets : List ℕ) (triple : Triple) (pair : Pair) → pair ≡ pair_in uses triple
    → IsGap uses offsets triple (pos (get_or offsets pair.left 0) -ℤ pos (get_or offsets pair.right 0))
IsGap-from uses offsets triple pair is = grind (arith, pair_in-left, pair_in-right)

pub pair_same : (pair other : Pair) → pair.left ≡ other.left → pair.right ≡ other.right → pair.above ≡ other.above → pair.below ≡ other.below → pair ≡ other
pair_same pair other left right above below = λ k. record { left = left k; right = right k; above = above k; below = below k }
