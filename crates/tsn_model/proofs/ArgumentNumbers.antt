-- The numbers of a view stay between 0 and the cycle, unless it is impossible.
use Rattle.std.proofs.Common.{ℕ, zero, suc, ◌<◌, List, [], ◌∷◌, get_or, ℤ, pos, ◌≤ℤ◌, arith}
use Rattle.std.specs.Prelude.{int_le}
use Rattle.std.specs.Int.{int_min, int_max}
use Rattle.std.proofs.lemmas.Int.{ints, clamps}
use Rattle.std.proofs.lemmas.Bool.{cond_both}
use Rattle.std.proofs.lemmas.List.FromFn.{get_or-map-range_with_len}
use Rattle.tsn_model.specs.Network.{Network, stream_count, release_of}
use Rattle.tsn_model.specs.Schedule.{flowspan, latest_offset}
use Rattle.tsn_model.proofs.Numbers.{each-set}
use Rattle.tsn_model.proofs.Shifts.{period-le-cycle}
use Rattle.tsn_model.specs.Argument.{Goal, goal_first, goal_least, goal_none, Fact, from, until, order, done_from, done_until, View, low_at, high_at, IsBounded, learned, greatest_flowspan, first_ground, capped, settled}

capped-le : (plan : List ℕ) (lows highs : List ℤ) (j : ℕ) → get_or (capped plan lows highs) j (pos 0) ≤ℤ get_or highs j (pos 0)
unfolding capped
capped-le [] lows highs j = omega (arith, ints)
capped-le (p ∷ plan) [] highs j = omega (arith, ints)
capped-le (p ∷ plan) (l ∷ lows) [] j = omega (arith, ints)
capped-le (p ∷ plan) (l ∷ lows) (h ∷ highs) zero = omega (arith, ints, clamps)
capped-le (p ∷ plan) (l ∷ lows) (h ∷ highs) (suc k) =
    cond_both (int_le (pos p) l) (capped plan lows highs) highs (λ ys. get_or ys k (pos 0) ≤ℤ get_or highs k (pos 0))
    (λ known. capped-le plan lows highs k) (λ unknown. omega (arith, ints))

module _ (network : Network) where
  pub IsBounded-learned : (view : View) (fact : Fact) → IsBounded network view → IsBounded network (learned view fact)
  unfolding learned
  IsBounded-learned view (from i v) bounded =
      let low = each-set (λ j x. j < stream_count network → pos 0 ≤ℤ x) view.low i (int_max v (low_at view i))
      (λ below. let old = bounded.low i below in omega (arith, ints, clamps)) bounded.low in
      record { low = low; high = bounded.high; done_low = bounded.done_low; done_high = bounded.done_high }
  IsBounded-learned view (until i v) bounded =
      let high = each-set (λ j x. j < stream_count network → x ≤ℤ pos network.cycle) view.high i (int_min v (high_at view i))
      (λ below. let old = bounded.high i below in omega (arith, ints, clamps)) bounded.high in
      record { low = bounded.low; high = high; done_low = bounded.done_low; done_high = bounded.done_high }
  IsBounded-learned view (order decision) bounded =
      record { low = bounded.low; high = bounded.high; done_low = bounded.done_low; done_high = bounded.done_high }
  IsBounded-learned view (done_from v) bounded =
      let done_low : pos 0 ≤ℤ int_max v view.done_low = omega (arith, ints, clamps) in
      record { low = bounded.low; high = bounded.high; done_low = done_low; done_high = bounded.done_high }
  IsBounded-learned view (done_until v) bounded =
      let done_high : int_min v view.done_high ≤ℤ pos network.cycle = omega (arith, ints, clamps) in
      record { low = bounded.low; high = bounded.high; done_low = bounded.done_low; done_high = done_high }

  pub IsBounded-settled : (goal : Goal) (view : View) → IsBounded network view → IsBounded network (settled network goal view)
  unfolding settled
  IsBounded-settled (goal_first plan) view bounded =
      cond_both (int_le (pos (flowspan network plan)) view.done_low) (record view { high = capped plan view.low view.high }) view (IsBounded network)
      (λ known. record {
        low = bounded.low;
        high = λ j below. let falls = capped-le plan view.low view.high j in let old = bounded.high j below in omega (arith, ints, falls, old);
        done_low = bounded.done_low;
        done_high = bounded.done_high;
      })
      (λ unknown. bounded)
  IsBounded-settled (goal_least plan) view bounded = bounded
  IsBounded-settled goal_none view bounded = bounded

  pub IsBounded-first : (goal : Goal) → greatest_flowspan network goal ≤ℤ pos network.cycle → IsBounded network (first_ground network goal)
  unfolding first_ground latest_offset
  IsBounded-first goal within = record {
    low = λ i below. let is = get_or-map-range_with_len (λ i. pos (release_of network i)) 0 (stream_count network) i i (pos 0) below
        (omega arith) in omega (arith, ints, is);
    high = λ i below. let is = get_or-map-range_with_len (latest_offset network) 0 (stream_count network) i i (pos 0) below (omega arith) in
        let short = period-le-cycle network i in
        omega (arith, ints, clamps, is, short);
    done_low = omega (arith, ints);
    done_high = within;
  }
