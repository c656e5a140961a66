-- Which of two lists comes before the other, by their first difference.
use Rattle.std.proofs.Common.{◌≡◌, ℕ, ◌≤◌, ◌<◌, min, List, length, Bool, true, false, refl, sym, arith}
use Rattle.tsn_model.specs.Schedule.{offset_of, comes_before}
use Rattle.tsn_model.proofs.ListOrder.{before_at, before_one_way, comes_before-true, before_is_true}

not_true : (b : Bool) → (b ≡ true → ⊥) → b ≡ false
not_true true never = absurd (never refl)
not_true false never = refl

module _ (xs ys : List ℕ) (k : ℕ) (same : (i : ℕ) → i < k → offset_of xs i ≡ offset_of ys i) where
  pub less_at : k < length xs → k < length ys → offset_of xs k < offset_of ys k → comes_before xs ys ≡ true
  less_at in_first in_second less = before_is_true xs ys (before_at xs ys k in_first in_second same less)

  pub greater_at : k < length xs → k < length ys → offset_of ys k < offset_of xs k → comes_before xs ys ≡ false
  greater_at in_first in_second greater =
      not_true (comes_before xs ys) (λ is. before_one_way xs ys (comes_before-true xs ys is)
      (before_at ys xs k in_second in_first (λ i below. sym (same i below)) greater))

  pub same_till : min (length xs) (length ys) ≤ k → comes_before xs ys ≡ false
  same_till all = not_true (comes_before xs ys) (λ is.
      let before = comes_before-true xs ys is in
      let less = before.4 in
      let below : before.0 < k = omega (arith, all, before.1, before.2) in
      omega (arith, less, same before.0 below))
