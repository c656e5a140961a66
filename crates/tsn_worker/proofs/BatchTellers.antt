-- What a batch that is settled does to its teller.
--     unsolved_all, few_unsolved              nothing by what isn't solved
--     solved_last, only_last_solved           by its last outcome alone
--     solved_least                            what is posted then
use Rattle.std.proofs.Common.{◌≡◌, ℕ, ◌<◌, ◌≤◌, List, [], ◌∷◌, ◌++◌, length, take, refl, sym, ap, ◌∙◌, subst, arith, length-append}
use Rattle.std.specs.Prelude.{All, Option, Some, None, MatchOption}
use Rattle.std.proofs.lemmas.List.{take-append-le}
use Rattle.std.proofs.lemmas.List.Elements.{All-nil, All-cons, All-head, All-tail, All-take}
use Rattle.tsn_model.specs.Network.{Network}
use Rattle.tsn_model.specs.Search.{Outcome, split, solved, pruned, tied, refuted}
use Rattle.tsn_timing.specs.Solution.{Solution, IsSolved}
use Rattle.tsn_model.specs.Gathering.{tally_with}
use Rattle.tsn_model.specs.declared.Tally.{Tally}
use Rattle.tsn_incumbent.specs.Teller.{OnlyLastSolved, Known, IsEven, settled_all, tally_with_all}
use Rattle.tsn_conflict.specs.Outcome.{IsSolvedBy, IsUnsolved}
use Rattle.tsn_walk.specs.Below.{EndsSolved}

-- what isn't solved leaves the least flowspan solved
unsolved_one : (outcome : Outcome) (tally : Tally) → IsUnsolved outcome → (tally_with tally outcome).solved ≡ tally.solved
unfolding tally_with
unsolved_one (split triple) tally un = refl
unsolved_one (solved offsets bound leaf chains) tally un = absurd un
unsolved_one (pruned bound leaf) tally un = refl
unsolved_one (tied bound leaf chains) tally un = refl
unsolved_one (refuted leaf) tally un = refl

pub unsolved_all : (outcomes : List Outcome) (tally : Tally) → All IsUnsolved outcomes → (tally_with_all tally outcomes).solved ≡ tally.solved
unsolved_all [] tally unsolved = refl
unsolved_all (outcome ∷ outcomes) tally unsolved =
    unsolved_all outcomes (tally_with tally outcome) (All-tail IsUnsolved outcome outcomes unsolved) ∙ unsolved_one outcome tally (All-head IsUnsolved outcome outcomes unsolved)

after_more : (front : List Outcome) (last : Outcome) (tally : Tally) → tally_with_all tally (front ++ last ∷ []) ≡ tally_with (tally_with_all tally front) last
after_more [] last tally = refl
after_more (outcome ∷ front) last tally = after_more front last (tally_with tally outcome)

solved_one : (flowspan : ℕ) (outcome : Outcome) (tally : Tally) → IsSolvedBy flowspan outcome → flowspan ≤ tally.solved
    → (tally_with tally outcome).solved ≡ flowspan
unfolding tally_with
solved_one flowspan (split triple) tally by least = absurd by
solved_one flowspan (solved offsets bound leaf chains) tally by least = omega (arith, by, least)
solved_one flowspan (pruned bound leaf) tally by least = absurd by
solved_one flowspan (tied bound leaf chains) tally by least = absurd by
solved_one flowspan (refuted leaf) tally by least = absurd by

-- the flowspan of the last one is then the least
pub solved_last : (network : Network) (seen : ℕ) (outcomes : List Outcome) (solution : Solution) (tally : Tally)
    → EndsSolved network seen outcomes solution → seen ≤ tally.solved
    → (tally_with_all tally outcomes).solved ≡ solution.flowspan
solved_last network seen outcomes solution tally ends low =
    let before = unsolved_all ends.front tally ends.unsolved in
    let least = ends.least in
    ap (λ os. (tally_with_all tally os).solved) ends.is ∙ ap (λ (t : Tally). t.solved) (after_more ends.front ends.last tally)
    ∙ solved_one solution.flowspan ends.last (tally_with_all tally ends.front) ends.by (omega (arith, before, least, low))

module _ (network : Network) (seen : ℕ) (outcomes : List Outcome) where
  -- fewer than all of them are not solved
  pub few_unsolved : (o : Option Solution) → MatchOption o (All IsUnsolved outcomes) (EndsSolved network seen outcomes) → (n : ℕ) → n < length outcomes → All IsUnsolved (take n outcomes)
  few_unsolved None all n low = All-take IsUnsolved n outcomes all
  few_unsolved (Some solution) ends n low =
      let long = ap length ends.is ∙ length-append ends.front (ends.last ∷ []) in
      let short : n ≤ length ends.front = omega (arith, long, low) in
      subst (All IsUnsolved) (sym (ap (take n) ends.is ∙ take-append-le n ends.front (ends.last ∷ []) short)) (All-take IsUnsolved n ends.front ends.unsolved)

-- the last alone may be solved
only_last : (outcomes : List Outcome) → 1 ≤ length outcomes → All IsUnsolved outcomes → OnlyLastSolved outcomes
only_last [] some all = absurd (omega arith)
only_last (outcome ∷ []) some all = record { front = []; last = outcome; is = refl; unsolved = All-nil IsUnsolved }
only_last (outcome ∷ next ∷ outcomes) some all =
    let rest = only_last (next ∷ outcomes) (omega arith) (All-tail IsUnsolved outcome (next ∷ outcomes) all) in
    record {
      front = outcome ∷ rest.front;
      last = rest.last;
      is = ap (λ os. outcome ∷ os) rest.is;
      unsolved = All-cons IsUnsolved outcome rest.front (All-head IsUnsolved outcome (next ∷ outcomes) all) rest.unsolved;
    }

pub only_last_solved : (network : Network) (seen : ℕ) (outcomes : List Outcome) (schedule : Option Solution) → 1 ≤ length outcomes → MatchOption schedule (All IsUnsolved outcomes) (EndsSolved network seen outcomes)
    → OnlyLastSolved outcomes
only_last_solved network seen outcomes None some all = only_last outcomes some all
only_last_solved network seen outcomes (Some solution) some ends = record { front = ends.front; last = ends.last; is = ends.is; unsolved = ends.unsolved }

-- the schedule of a batch that was settled has the teller's least flowspan, and with none the teller is as even as before
pub solved_least : (network : Network) (seen : ℕ) (outcomes : List Outcome) (schedule : Option Solution) (old new : Known) → new ≡ settled_all outcomes old → IsEven old → seen ≤ old.standing.posted
    → MatchOption schedule (All IsUnsolved outcomes) (EndsSolved network seen outcomes)
    → MatchOption schedule (IsEven new) (λ solution. IsSolved network solution × (solution.flowspan ≡ new.tally.solved))
solved_least network seen outcomes None old new is even low all =
    ap (λ (t : Known). t.tally.solved) is ∙ unsolved_all outcomes old.tally all ∙ even ∙ sym (ap (λ (t : Known). t.standing.posted) is)
solved_least network seen outcomes (Some solution) old new is even low ends =
    (ends.schedule, sym (ap (λ (t : Known). t.tally.solved) is ∙ solved_last network seen outcomes solution old.tally ends (omega (arith, even, low))))
