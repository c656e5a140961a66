-- What the text of a number says.
use Rattle.std.proofs.Common.{◌≡◌, ◌≤◌, ◌<◌, ◌^◌, ℕ, pos, List, drop, Bool, true, false, Option, Some, None, refl, sym, ap, ◌∙◌, arith, lt-ltb, le-leb, eq-eqb, get_or, w64, FitsSigned, ◌<ℤ◌}
use Rattle.std.specs.Prelude.{ℤ, ◌&&◌, ◌==◌, length, not, nat_lt, nat_le, if◌then◌else◌, option_map, option_and_then, SomeIff, min}
use Rattle.std.proofs.lemmas.Int.{ints}
use Rattle.std.proofs.lemmas.Bool.{and_parts}
use Rattle.std.specs.Float.{binary64, float_is_finite}
use Rattle.fast_float.specs.Text.{Parts, IsInteger, scan, digits_of, with_sign, nearest}
use Rattle.serde_json.specs.Data.{Num, unsigned, negative, float}
use Rattle.serde_json.specs.Find.{as_u64}
use Rattle.serde_json.specs.Read.{is_integer, float_of, number_from, number_of}
use Rattle.tsn_cert.specs.Json.{signed_of, max_signed}

-- ---- floats say nothing

float_said : {A : Type 0} (f : Num → Option A) → ((x : _) → f (float x) ≡ None) → (sign : Bool) (p : Parts) → option_and_then f (float_of sign p) ≡ None
float_said f h sign p = at (float_is_finite (nearest binary64 sign p))
  where
    at : (b : Bool) → option_and_then f (if b then Some (float (nearest binary64 sign p)) else None) ≡ None
    at true = h (nearest binary64 sign p)
    at false = refl

-- ---- whether a test holds

integer_test : (p : Parts) → IsInteger p → is_integer p ≡ true
integer_test p h = rw (lt-ltb _ _ h.0, h.1, eq-eqb _ _ h.2) refl

test_integer : (p : Parts) → is_integer p ≡ true → IsInteger p
test_integer p h =
    let outer = and_parts (nat_lt 0 (length p.whole) && not p.point) (length p.exponent == 0) h in
    let inner = and_parts (nat_lt 0 (length p.whole)) (not p.point) outer.0 in
    grind (arith, outer.1, inner.0, inner.1)

-- ---- without a sign

plain_said : (p : Parts) (o : Option ℕ) → SomeIff o (IsInteger p × (digits_of p < 2 ^ 64)) (digits_of p) → (b : Bool)
    → (is_integer p && nat_lt (digits_of p) (2 ^ 64)) ≡ b
    → o ≡ option_and_then as_u64 (if b then Some (unsigned (digits_of p)) else float_of false p)
plain_said p (Some n) h true is = ap Some h.1
plain_said p (Some n) h false is = let bad : true ≡ false = sym (rw (integer_test p h.0.0, lt-ltb _ _ h.0.1) refl) ∙ is in cc
plain_said p None h true is =
    let both = and_parts (is_integer p) (nat_lt (digits_of p) (2 ^ 64)) is in
    absurd (h (test_integer p both.0, grind (arith, both.1)))
plain_said p None h false is = sym (float_said as_u64 (λ x. refl) false p)

pub whole_plain : (s : List ℕ) (o : Option ℕ) → (get_or s 0 0 == 45) ≡ false
    → SomeIff o (IsInteger (scan s) × (digits_of (scan s) < 2 ^ 64)) (digits_of (scan s))
    → o ≡ option_and_then as_u64 (number_of s)
unfolding number_of
whole_plain s o sign h = rw sign (plain_said (scan s) o h (is_integer (scan s) && nat_lt (digits_of (scan s)) (2 ^ 64)) refl)

minus_whole : (p : Parts) (b : Bool) (z : ℤ) → option_and_then as_u64 (if b then Some (negative z) else float_of true p) ≡ None
minus_whole p true z = refl
minus_whole p false z = float_said as_u64 (λ x. refl) true p

pub whole_minus : (s : List ℕ) → (get_or s 0 0 == 45) ≡ true → None ≡ option_and_then as_u64 (number_of s)
unfolding number_of
whole_minus s sign = rw sign (sym (minus_whole (scan (drop 1 s)) _ _))

signed_said : (p : Parts) (b : Bool) (n : ℕ)
    → option_map (λ k. pos (min k max_signed)) (option_and_then as_u64 (if b then Some (unsigned n) else float_of false p))
    ≡ option_and_then signed_of (if b then Some (unsigned n) else float_of false p)
signed_said p true n = refl
signed_said p false n = ap (option_map (λ k. pos (min k max_signed))) (float_said as_u64 (λ x. refl) false p) ∙ sym (float_said signed_of (λ x. refl) false p)

-- the number without a sign, and no more than the greatest `i64`
pub signed_plain : (s : List ℕ) (o : Option ℕ) → (get_or s 0 0 == 45) ≡ false → o ≡ option_and_then as_u64 (number_of s)
    → option_map (λ k. pos (min k max_signed)) o ≡ option_and_then signed_of (number_of s)
unfolding number_of
signed_plain s o sign is = ap (option_map (λ k. pos (min k max_signed))) is ∙ rw sign (signed_said (scan s) _ (digits_of (scan s)))

-- ---- behind a sign

abbrev minus_test : Parts → Bool
minus_test p = is_integer p && nat_lt 0 (digits_of p) && nat_le (digits_of p) (2 ^ 63)

abbrev minus_read : Parts → Bool → Option ℤ
minus_read p b = option_and_then signed_of (if b then Some (negative (with_sign true (digits_of p))) else float_of true p)

minus_none : (p : Parts) → (minus_test p ≡ true → ⊥) → (b : Bool) → minus_test p ≡ b → None ≡ minus_read p b
minus_none p h true is = absurd (h is)
minus_none p h false is = sym (float_said signed_of (λ x. refl) true p)

-- the number below 0
pub minus_some : (p : Parts) (z : ℤ) → IsInteger p → FitsSigned w64 (with_sign true (digits_of p)) → z ≡ with_sign true (digits_of p) → z <ℤ pos 0
    → Some z ≡ option_and_then signed_of (number_from true p)
minus_some p z integer fits is below =
    let n = digits_of p in
    let some : 0 < n = omega (arith, ints) in
    let few : n ≤ 2 ^ 63 = omega (arith, ints) in
    rw (lt-ltb _ _ integer.0, integer.1, eq-eqb _ _ integer.2, lt-ltb _ _ some, le-leb _ _ few) (ap Some is)

-- it is 0, or no integer of 64 bits
pub minus_other : (p : Parts) (o : Option ℤ) → SomeIff o (IsInteger p × FitsSigned w64 (with_sign true (digits_of p))) (with_sign true (digits_of p))
    → ((z : ℤ) → o ≡ Some z → z <ℤ pos 0 → ⊥) → None ≡ option_and_then signed_of (number_from true p)
minus_other p o h none = minus_none p (refuted p o h none) (minus_test p) refl
  where
    refuted : (p : Parts) (o : Option ℤ) → SomeIff o (IsInteger p × FitsSigned w64 (with_sign true (digits_of p))) (with_sign true (digits_of p))
        → ((z : ℤ) → o ≡ Some z → z <ℤ pos 0 → ⊥) → minus_test p ≡ true → ⊥
    refuted p None h none is =
        let outer = and_parts (is_integer p && nat_lt 0 (digits_of p)) (nat_le (digits_of p) (2 ^ 63)) is in
        let few : digits_of p ≤ 2 ^ 63 = grind (arith, outer.1) in
        h (test_integer p (and_parts (is_integer p) (nat_lt 0 (digits_of p)) outer.0).0, omega (arith, ints))
    refuted p (Some z) h none is =
        let outer = and_parts (is_integer p && nat_lt 0 (digits_of p)) (nat_le (digits_of p) (2 ^ 63)) is in
        let some : 0 < digits_of p = grind (arith, (and_parts (is_integer p) (nat_lt 0 (digits_of p)) outer.0).1) in
        none z refl (omega (arith, ints, h.1))
