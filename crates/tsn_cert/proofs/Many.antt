-- The elements of an array, taken one after another.
use Rattle.std.proofs.Common.{◌≡◌, ◌≤◌, ℕ, zero, suc, List, [], ◌∷◌, length, Some, None, refl, ap, arith}
use Rattle.std.specs.Prelude.{option_and_then}
use Rattle.json.specs.Token.{Token}
use Rattle.json.specs.Json.{Parse, parse_map, after_end_array}
use Rattle.json.proofs.Grammar.{after_end_array-shorter}
use Rattle.tsn_cert.specs.Form.{many, many_step}

pub many_over : {A : Type 0} (p : Parse A) (m : ℕ) (ts r : List Token) → length ts ≤ m → after_end_array ts ≡ Some r → many p m ts ≡ Some ([], r)
unfolding many
many_over p zero ts r enough e = let bad : ⊥ = omega (arith, after_end_array-shorter ts r e) in absurd bad
many_over p (suc m) ts r enough e = ap (many_step p (many p m) ts) e

pub many_more : {A : Type 0} (p : Parse A) (m : ℕ) (ts : List Token) → after_end_array ts ≡ None
    → many p (suc m) ts ≡ option_and_then (λ x. parse_map (λ xs. x.0 ∷ xs) (many p m x.1)) (p ts)
unfolding many
many_more p m ts e = ap (many_step p (many p m) ts) e

pub many_zero : {A : Type 0} (p : Parse A) (ts : List Token) → many p zero ts ≡ None
unfolding many
many_zero p ts = refl
