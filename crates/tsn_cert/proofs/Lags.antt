-- A lag is read again where it is printed.
use Rattle.std.proofs.Common.{◌≡◌, ◌≤◌, pos, negsuc, [], ◌∷◌, Bool, true, false, Some, refl, sym, ap, ◌∙◌, arith, w64, FitsSigned}
use Rattle.std.specs.Prelude.{ℤ, not, option_and_then, option_map, if◌then◌else◌, min}
use Rattle.std.specs.Ordering.{int_eq}
use Rattle.std.proofs.lemmas.Bool.Decides.{Decides-int_eq}
use Rattle.std.proofs.lemmas.Int.{ints}
use Rattle.tsn_model.specs.declared.Triple.{Triple}
use Rattle.tsn_cert.specs.Json.{when, signed_number, signed_value, number_value, max_signed}
use Rattle.tsn_cert.specs.Cert.{lag_parts, lag_items, triple_parts}

signed_back : (z : ℤ) → FitsSigned w64 z → signed_number (signed_value z) ≡ Some z
signed_back (pos n) fits =
    let same : min n max_signed ≡ n = omega (arith, ints) in
    ap (λ k. Some (pos k)) same
signed_back (negsuc n) fits = refl

lag_back_if : (b : Bool) (lag : ℤ) → int_eq lag (pos 0) ≡ b → FitsSigned w64 lag → lag_parts (if b then [] else signed_value lag ∷ []) ≡ Some lag
lag_back_if true lag is fits = ap Some (sym ((Decides-int_eq lag (pos 0)).0 is))
lag_back_if false lag is fits =
    ap (λ o. option_and_then (λ (z : ℤ). Some z) (option_and_then (λ (z : ℤ). when (not (int_eq z (pos 0))) (Some z)) o)) (signed_back lag fits)
    ∙ ap (λ b. option_and_then (λ (z : ℤ). Some z) (when (not b) (Some lag))) is

pub lag_back : (lag : ℤ) → FitsSigned w64 lag → lag_parts (lag_items lag) ≡ Some lag
lag_back lag fits = lag_back_if (int_eq lag (pos 0)) lag refl fits

pub triple_back : (t : Triple) → FitsSigned w64 t.lag
    → triple_parts (number_value t.left ∷ number_value t.right ∷ number_value t.link ∷ lag_items t.lag) ≡ Some t
triple_back t fits =
    ap (option_map (λ (z : ℤ). record { left = t.left; right = t.right; link = t.link; lag = z })) (lag_back t.lag fits)
