-- Rows whose last parts are taken by a function of their own.
use Rattle.std.proofs.Common.{◌≡◌, List, Option, Some, None, refl}
use Rattle.std.specs.Prelude.{option_and_then, option_map}
use Rattle.json.specs.Token.{Token}
use Rattle.json.specs.Json.{Parse, parse_map, after_end_array}
use Rattle.tsn_cert.specs.Form.{closed}

closed_with : {A B : Type 0} (f : A → B) (a : A) (o : Option (List Token)) → option_map (λ rest. (f a, rest)) o ≡ parse_map f (option_map (λ rest. (a, rest)) o)
closed_with f a None = refl
closed_with f a (Some rest) = refl

-- what f makes of a part, which ends the array
pub part_with : {A B : Type 0} (f : A → B) (o : Option (A × List Token))
    → option_and_then (λ p. closed (f p.0) p.1) o ≡ parse_map f (option_and_then (λ p. closed p.0 p.1) o)
part_with f None = refl
part_with f (Some p) = closed_with f p.0 (after_end_array p.1)

pub part_twice : {A B C : Type 0} (f : B → C) (g : A → B) (o : Option (A × List Token))
    → option_and_then (λ p. closed (f (g p.0)) p.1) o ≡ parse_map f (option_and_then (λ p. closed (g p.0) p.1) o)
part_twice f g None = refl
part_twice f g (Some p) = closed_with f (g p.0) (after_end_array p.1)

-- what f makes of three parts, of which the last one ends the array
pub parts_with : {A B C D : Type 0} (f : A × B × C → D) (p : Parse A) (q : Parse B) (r : Parse C) (ts : List Token)
    → option_and_then (λ a. option_and_then (λ b. option_and_then (λ c. closed (f (a.0, b.0, c.0)) c.1) (r b.1)) (q a.1)) (p ts)
    ≡ parse_map f (option_and_then (λ a. option_and_then (λ b. option_and_then (λ c. closed (a.0, b.0, c.0) c.1) (r b.1)) (q a.1)) (p ts))
parts_with {A = A} {B = B} f p q r ts = by_first (p ts)
  where
    by_second : (a : A) (o : Option (B × List Token))
        → option_and_then (λ b. option_and_then (λ c. closed (f (a, b.0, c.0)) c.1) (r b.1)) o
        ≡ parse_map f (option_and_then (λ b. option_and_then (λ c. closed (a, b.0, c.0) c.1) (r b.1)) o)
    by_second a None = refl
    by_second a (Some b) = part_twice f (λ c. (a, b.0, c)) (r b.1)

    by_first : (o : Option (A × List Token))
        → option_and_then (λ a. option_and_then (λ b. option_and_then (λ c. closed (f (a.0, b.0, c.0)) c.1) (r b.1)) (q a.1)) o
        ≡ parse_map f (option_and_then (λ a. option_and_then (λ b. option_and_then (λ c. closed (a.0, b.0, c.0) c.1) (r b.1)) (q a.1)) o)
    by_first None = refl
    by_first (Some a) = by_second a.0 (q a.1)
