-- What the steps of these tests come to.
use Rattle.std.proofs.Common.{◌≡◌, ℕ, zero, suc, ◌+◌, ◌<◌, List, [], ◌∷◌, ◌++◌, length, get_or, ap, refl, arith, length-append}
use Rattle.std.specs.Prelude.{All, Option}
use Rattle.std.proofs.lemmas.List.Elements.{All-nil, All-cons}
use Rattle.tsn_model.specs.declared.Decision.{Decision}
use Rattle.tsn_model.specs.Network.{Network}
use Rattle.tsn_model.specs.Search.{Outcome, split, solved, pruned, tied, refuted}
use Rattle.tsn_model.specs.Core.{IsAboveSeen}
use Rattle.tsn_timing.specs.Solution.{Solution}
use Rattle.tsn_model.specs.Gathering.{tally_with}
use Rattle.tsn_model.specs.declared.Tally.{Tally}
use Rattle.tsn_branch.specs.Look.{IsLook}
use Rattle.tsn_conflict.specs.Outcome.{IsSolvedBy, IsUnsolved}
use Rattle.tsn_incumbent.specs.Teller.{Known, IsEven, OnlyLastSolved}
use Rattle.tsn_incumbent.specs.Gathered.{AreAll}
use Rattle.tsn_tests_search.specs.Solving.{IsTied}

-- what a look solves is below its target
pub solved_below : (network : Network) (path : List Decision) (target flowspan : ℕ) (best : Option Solution) (outcome : Outcome)
    → IsLook network path target best outcome → IsSolvedBy flowspan outcome → flowspan < target
solved_below network path target flowspan best (split triple) found by = absurd by
solved_below network path target flowspan best (solved offsets bound leaf chains) found by = let below = found.3 in omega (arith, by, below)
solved_below network path target flowspan best (pruned bound leaf) found by = absurd by
solved_below network path target flowspan best (tied bound leaf chains) found by = absurd by
solved_below network path target flowspan best (refuted leaf) found by = absurd by

-- a tie prunes by nothing, and keeps what its teller solved
pub tied_above : (network : Network) (seen : ℕ) (outcome : Outcome) → IsTied outcome → IsAboveSeen network seen outcome
tied_above network seen (split triple) is = absurd is
tied_above network seen (solved offsets bound leaf chains) is = absurd is
tied_above network seen (pruned bound leaf) is = absurd is
tied_above network seen (tied bound leaf chains) is = tt
tied_above network seen (refuted leaf) is = absurd is

pub tied_least : (tally : Tally) (outcome : Outcome) → IsTied outcome → (tally_with tally outcome).solved ≡ tally.solved
unfolding tally_with
tied_least tally (split triple) is = absurd is
tied_least tally (solved offsets bound leaf chains) is = absurd is
tied_least tally (pruned bound leaf) is = absurd is
tied_least tally (tied bound leaf chains) is = refl
tied_least tally (refuted leaf) is = absurd is

-- of one outcome at most the last is solved
pub last_of_one : (outcome : Outcome) → OnlyLastSolved (outcome ∷ [])
last_of_one outcome = record { front = []; last = outcome; is = refl; unsolved = All-nil IsUnsolved }

-- two tellers taken out of a list of them
pub two_popped : (xs : List Known) (x y a b : Known) → (xs ++ x ∷ []) ++ y ∷ [] ≡ a ∷ b ∷ [] → (x ≡ a) × (y ≡ b)
two_popped [] x y a b e = (ap (λ (l : List Known). get_or l 0 x) e, ap (λ (l : List Known). get_or l 1 x) e)
two_popped (z ∷ zs) x y a b e =
    absurd
    (let long = ap length e in let count = length-append (zs ++ x ∷ []) (y ∷ []) in
    let less = length-append zs (x ∷ []) in omega (arith, long, count, less))

-- put together again, the second one first
pub two_reversed : (x y : Known) → x.standing.number ≡ 0 → y.standing.number ≡ 1 → AreAll (y ∷ x ∷ [])
two_reversed x y first second zero low = (1, x, omega arith, refl, first)
two_reversed x y first second (suc zero) low = (0, y, omega arith, refl, second)
two_reversed x y first second (suc (suc k)) low = absurd (omega (arith, low))

pub two_even : (x y : Known) → IsEven x → IsEven y → All IsEven (x ∷ y ∷ [])
two_even x y first second = All-cons IsEven x (y ∷ []) first (All-cons IsEven y [] second (All-nil IsEven))
