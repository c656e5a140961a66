-- What a finished book has kept is a bound.
use Rattle.std.proofs.Common.{◌≡◌, ℕ, ◌≤◌, List, Option, Some, sym, ap, ◌∙◌, subst}
use Rattle.tsn_model.specs.Network.{Network}
use Rattle.tsn_model.specs.Schedule.{flowspan}
use Rattle.tsn_model.specs.Search.{kept_of}
use Rattle.tsn_timing.specs.Solution.{Solution, IsSolved}
use Rattle.tsn_book.specs.Book.{Progress}
use Rattle.tsn_branch.specs.Bound.{IsLowerBound}
use Rattle.tsn_answer.specs.Optimum.{IsFoundPlan}
use Rattle.tsn_answer.specs.Answer.{IsFinished, plan_kept}

pub kept_bound : (network : Network) (limit : ℕ) (book : Progress) (solution : Solution) → IsFinished network limit book
    → kept_of book.network book.history ≡ Some solution.offsets → IsSolved book.network solution → IsLowerBound network solution.flowspan
kept_bound network limit book solution done kept solved =
    let same = done.same_network in
    let here : kept_of network book.history ≡ Some solution.offsets = ap (λ n. kept_of n book.history) (sym same) ∙ kept in
    let first = subst (λ o. IsFoundPlan network (plan_kept network o)) here done.found in
    let span : flowspan network solution.offsets ≡ solution.flowspan = ap (λ n. flowspan n solution.offsets) (sym same) ∙ solved.1 in
    λ other valid. subst (λ n. n ≤ flowspan network other) span (first.0.optimal.least other valid)
