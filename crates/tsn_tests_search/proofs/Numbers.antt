-- A seat's numbers, and those of two seats together.
use Rattle.std.proofs.Common.{◌≡◌, ℕ, ◌+◌, ◌<◌, cond, eqb, List, [], ◌∷◌, ◌++◌, length, length-append, get_or, refl, ap, ◌∙◌, arith}
use Rattle.std.proofs.lemmas.Bool.Decides.{nat_tests}
use Rattle.std.proofs.lemmas.List.Sums.{sum_by-cons}
use Rattle.tsn_incumbent.specs.declared.standing.Standing.{Standing}
use Rattle.tsn_incumbent.specs.Standings.{observed, posted, times, merged}
use Rattle.tsn_incumbent.proofs.Lists.{sum_by-merged}
use Rattle.tsn_tests_search.specs.Numbers.{numbers_of}

pub observed_numbers : (word : ℕ) (ps : List Standing) → numbers_of (observed word ps) ≡ numbers_of ps
observed_numbers word [] = refl
observed_numbers word (p ∷ ps) = refl

pub posted_numbers : (flowspan : ℕ) (ps : List Standing) → numbers_of (posted flowspan ps) ≡ numbers_of ps
posted_numbers flowspan [] = refl
posted_numbers flowspan (p ∷ ps) = refl

-- how often a number stands where one does
times_of_one : (number k : ℕ) (ps : List Standing) → numbers_of ps ≡ number ∷ [] → times k ps ≡ cond (eqb number k) 1 0
times_of_one number k [] e = absurd (let none = ap length e in omega (arith, none))
times_of_one number k (p ∷ []) e =
    let is : p.number ≡ number = ap (λ (l : List ℕ). get_or l 0 0) e in
    sum_by-cons (λ (q : Standing). cond (eqb q.number k) 1 0) p [] ∙ rw is (omega arith)
times_of_one number k (p ∷ q ∷ ps) e = absurd (let more = ap length e in omega (arith, more))

either : (k one two : ℕ) → k < 2 → one ≡ cond (eqb 0 k) 1 0 → two ≡ cond (eqb 1 k) 1 0 → one + two ≡ 1
either k one two low first second = grind (arith, nat_tests)

pub holds_two : (ps qs : List Standing) → numbers_of ps ≡ 0 ∷ [] → numbers_of qs ≡ 1 ∷ [] → (k : ℕ) → k < 2 → times k (merged ps qs) ≡ 1
holds_two ps qs first second k low =
    sum_by-merged (λ (p : Standing). cond (eqb p.number k) 1 0) ps qs
    ∙ either k (times k ps) (times k qs) low (times_of_one 0 k ps first) (times_of_one 1 k qs second)

-- a list of two, taken apart from its end
pub two_left : {X : Type 0} (xs ys zs : List X) (x y : X) → xs ≡ ys ++ y ∷ [] → ys ≡ zs ++ x ∷ [] → length xs ≡ 2 → xs ≡ x ∷ y ∷ []
two_left xs ys [] x y last first two = last ∙ ap (λ l. l ++ y ∷ []) first
two_left xs ys (z ∷ zs) x y last first two =
    absurd
    (let whole = ap length last in let front = ap length first in let one = length-append ys (y ∷ []) in
    let other = length-append (z ∷ zs) (x ∷ []) in omega (arith, whole, front, one, other, two))
