-- That a link has one of the three rates has one proof at most.
use Rattle.std.proofs.Common.{ℕ, ◌≡◌, refl, sym, ◌∙◌, ◌⊎◌, inl, inr, ap}
use Rattle.std.proofs.lemmas.Bool.{eqb-false}
use native.Mathlib.Nat.{ℕ_set}

pub rate-prop : (r : ℕ) → IsProp ((r ≡ 8) ⊎ (r ≡ 80) ⊎ (r ≡ 800))
rate-prop r (inl p) (inl q) = ap inl (ℕ_set r 8 p q)
rate-prop r (inl p) (inr (inl q)) = absurd (eqb-false 8 80 refl (sym p ∙ q))
rate-prop r (inl p) (inr (inr q)) = absurd (eqb-false 8 800 refl (sym p ∙ q))
rate-prop r (inr (inl p)) (inl q) = absurd (eqb-false 80 8 refl (sym p ∙ q))
rate-prop r (inr (inl p)) (inr (inl q)) = ap (λ e. inr (inl e)) (ℕ_set r 80 p q)
rate-prop r (inr (inl p)) (inr (inr q)) = absurd (eqb-false 80 800 refl (sym p ∙ q))
rate-prop r (inr (inr p)) (inl q) = absurd (eqb-false 800 8 refl (sym p ∙ q))
rate-prop r (inr (inr p)) (inr (inl q)) = absurd (eqb-false 800 80 refl (sym p ∙ q))
rate-prop r (inr (inr p)) (inr (inr q)) = ap (λ e. inr (inr e)) (ℕ_set r 800 p q)
