-- What a fact more does to a view, and what a view says of a fact.
use Rattle.std.proofs.Common.{◌≡◌, ℕ, ◌<◌, ◌⊎◌, List, [], ◌∷◌, All, ℤ, pos, ◌≤ℤ◌, ◌<ℤ◌, true, sym, subst, arith, inl, inr}
use Rattle.std.specs.Prelude.{int_lt}
use Rattle.std.specs.Int.{int_min, int_max}
use Rattle.std.proofs.lemmas.Int.{ints, clamps, by_lt_z}
use Rattle.std.proofs.lemmas.List.Elements.{All-head, All-tail, All-push, All-contains}
use Rattle.tsn_model.specs.declared.Triple.{Triple}
use Rattle.tsn_model.specs.declared.Side.{Side}
use Rattle.tsn_model.specs.declared.Side.TheVariants.{Left, Right}
use Rattle.tsn_model.specs.Network.{Network, IsWellFormed, stream_count}
use Rattle.tsn_model.specs.Schedule.{IsValid, IsConflict, offset_of, flowspan}
use Rattle.tsn_model.specs.Arcs.{arc_between, arc_on, arc_of, Holds}
use Rattle.tsn_model.specs.Search.{decision_eq}
use Rattle.tsn_model.specs.Argument.{Fact, from, until, order, done_from, done_until, IsFact, IsSo, other_side, turned, opposite, View, low_at, high_at, Fits, IsImpossible, learned, learned_all, contradicts}
use Rattle.std.proofs.lemmas.List.Folds.{Any-from_list_any}
use Rattle.tsn_model.proofs.Numbers.{each-set}
use Rattle.tsn_model.proofs.Paths.{decision_eq-true}
use Rattle.tsn_model.proofs.Orders.{conflict_decided}
use Rattle.tsn_model.proofs.Routes.{separation-pos}

pub int_lt-true : (a b : ℤ) → int_lt a b ≡ true → a <ℤ b
int_lt-true a b less = grind (arith, ints)

module _ (network : Network) (offsets : List ℕ) where
  -- offsets that fit a view fit it with a fact more that holds of them
  pub Fits-learned : (view : View) (fact : Fact) → IsSo network offsets fact → Fits network offsets view → Fits network offsets (learned view fact)
  unfolding learned
  Fits-learned view (from i v) so fits =
      let low = each-set (λ j x. j < stream_count network → x ≤ℤ pos (offset_of offsets j)) view.low i (int_max v (low_at view i))
      (λ below. let old = fits.low i below in omega (arith, ints, clamps)) fits.low in
      record { low = low; high = fits.high; orders = fits.orders; done_low = fits.done_low; done_high = fits.done_high }
  Fits-learned view (until i v) so fits =
      let high = each-set (λ j x. j < stream_count network → pos (offset_of offsets j) ≤ℤ x) view.high i (int_min v (high_at view i))
      (λ below. let old = fits.high i below in omega (arith, ints, clamps)) fits.high in
      record { low = fits.low; high = high; orders = fits.orders; done_low = fits.done_low; done_high = fits.done_high }
  Fits-learned view (order decision) so fits =
      let orders = All-push (λ d. IsSo network offsets (order d)) view.orders decision fits.orders so in
      record { low = fits.low; high = fits.high; orders = orders; done_low = fits.done_low; done_high = fits.done_high }
  Fits-learned view (done_from v) so fits =
      let done_low : int_max v view.done_low ≤ℤ pos (flowspan network offsets) = omega (arith, ints, clamps) in
      record { low = fits.low; high = fits.high; orders = fits.orders; done_low = done_low; done_high = fits.done_high }
  Fits-learned view (done_until v) so fits =
      let done_high : pos (flowspan network offsets) ≤ℤ int_min v view.done_high = omega (arith, ints, clamps) in
      record { low = fits.low; high = fits.high; orders = fits.orders; done_low = fits.done_low; done_high = done_high }

  pub Fits-learned_all : (view : View) (facts : List Fact) → All (IsSo network offsets) facts → Fits network offsets view
      → Fits network offsets (learned_all view facts)
  unfolding learned_all
  Fits-learned_all view [] so fits = fits
  Fits-learned_all view (fact ∷ facts) so fits =
      Fits-learned_all (learned view fact) facts (All-tail (IsSo network offsets) fact facts so)
      (Fits-learned view fact (All-head (IsSo network offsets) fact facts so) fits)

  -- none fit an impossible view
  pub none_fits : (view : View) → IsImpossible network view → Fits network offsets view → ⊥
  none_fits view (inl crossed) fits =
      let low = fits.low crossed.0 crossed.1 in
      let high = fits.high crossed.0 crossed.1 in
      let past = crossed.2 in
      omega (arith, ints, low, high, past)
  none_fits view (inr past) fits =
      let low = fits.done_low in
      let high = fits.done_high in
      omega (arith, ints, low, high, past)

-- ---- a fact and its opposite

module _ (network : Network) (formed : IsWellFormed network) (offsets : List ℕ) where
  decided_either : (triple : Triple) (side : Side) → IsValid network offsets → IsConflict network triple
      → Holds offsets (arc_on network triple side) ⊎ Holds offsets (arc_on network triple (other_side side))
  unfolding other_side
  decided_either triple Left valid conflict = conflict_decided network offsets triple formed valid conflict
  decided_either triple Right valid conflict = elim (conflict_decided network offsets triple formed valid conflict)
      [ inl left ↦ inr left | inr right ↦ inl right ]

  not_both : (triple : Triple) (side : Side) → IsConflict network triple → Holds offsets (arc_on network triple side)
      → Holds offsets (arc_on network triple (other_side side)) → ⊥
  unfolding other_side arc_on arc_between
  not_both triple Left conflict met other =
      let left = separation-pos network triple.left triple.link in
      let right = separation-pos network triple.right triple.link in
      omega (arith, ints, met, other, left, right)
  not_both triple Right conflict met other =
      let left = separation-pos network triple.left triple.link in
      let right = separation-pos network triple.right triple.link in
      omega (arith, ints, met, other, left, right)

  -- of a valid schedule each fact holds, or its opposite
  pub either_way : IsValid network offsets → (fact : Fact) → IsFact network fact → IsSo network offsets fact ⊎ IsSo network offsets (opposite fact)
  unfolding opposite turned arc_of
  either_way valid (from i v) is = by_lt_z (pos (offset_of offsets i)) v (λ less. inr (is, omega (arith, ints, less))) (λ enough. inl (is, enough))
  either_way valid (until i v) is = by_lt_z v (pos (offset_of offsets i)) (λ more. inr (is, omega (arith, ints, more))) (λ enough. inl (is, enough))
  either_way valid (order decision) is = elim (decided_either decision.triple decision.side valid is) [ inl met ↦ inl (is, met) | inr other ↦ inr (is, other) ]
  either_way valid (done_from v) is = by_lt_z (pos (flowspan network offsets)) v (λ less. inr (tt, omega (arith, ints, less))) (λ enough. inl (tt, enough))
  either_way valid (done_until v) is = by_lt_z v (pos (flowspan network offsets)) (λ more. inr (tt, omega (arith, ints, more))) (λ enough. inl (tt, enough))

  -- a fact that a view contradicts holds of no offsets that fit it
  pub contradicted : (view : View) (fact : Fact) → Fits network offsets view → contradicts view fact ≡ true → IsSo network offsets fact → ⊥
  unfolding contradicts turned arc_of
  contradicted view (from i v) fits against so =
      let past = int_lt-true (high_at view i) v against in
      let high = fits.high i so.0 in
      let low = so.1 in
      omega (arith, ints, past, high, low)
  contradicted view (until i v) fits against so =
      let past = int_lt-true v (low_at view i) against in
      let low = fits.low i so.0 in
      let high = so.1 in
      omega (arith, ints, past, high, low)
  contradicted view (order decision) fits against so =
      let found = Any-from_list_any (decision_eq (turned decision)) view.orders against in
      let same = decision_eq-true (turned decision) found.1 found.4 in
      let so_found = All-contains (λ d. IsSo network offsets (order d)) view.orders found.1 fits.orders (found.0, found.2, found.3) in
      let other : IsSo network offsets (order (turned decision)) = subst (λ d. IsSo network offsets (order d)) (sym same) so_found in
      not_both decision.triple decision.side so.0 so.1 other.1
  contradicted view (done_from v) fits against so =
      let past = int_lt-true view.done_high v against in
      let high = fits.done_high in
      let low = so.1 in
      omega (arith, ints, past, high, low)
  contradicted view (done_until v) fits against so =
      let past = int_lt-true v view.done_low against in
      let low = fits.done_low in
      let high = so.1 in
      omega (arith, ints, past, high, low)
