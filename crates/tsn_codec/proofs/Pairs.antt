-- Options of pairs.
use Rattle.std.proofs.Common.{◌≡◌, Option, Some, None, Result, Ok, Err, IfOk, ap}
use Rattle.std.specs.Prelude.{IfSome}

abbrev or_pair : {A B : Type 0} → (A × B) → Option (A × B) → A × B
or_pair p None = p
or_pair p (Some q) = q

-- two pairs that are one
pub both_same : {A B : Type 0} (p q : A × B) → Some p ≡ Some q → (p.0 ≡ q.0) × (p.1 ≡ q.1)
both_same p q e = (ap (λ o. (or_pair p o).0) e, ap (λ o. (or_pair p o).1) e)

pub never_some : {A P : Type 0} (a : A) → None ≡ Some a → P
never_some a e = absurd (cc)

-- what is known of an answer that is there gives something else
pub told_too : {A E : Type 0} {P Q : A → Type 0} (r : Result (Option A) E) → IfOk r (λ o. IfSome o P) → ((a : A) → P a → Q a) → IfOk r (λ o. IfSome o Q)
told_too (Err e) h f = h
told_too (Ok None) h f = h
told_too (Ok (Some a)) h f = f a h
