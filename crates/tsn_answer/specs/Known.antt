-- What is known of a network's schedules while a search goes on.
--     IsKnown                        it is so
--     KnowsWithin, HoldsKept         a schedule is known that is no longer than so much, or than what a book has kept
--     IsKeptIfBest                   a schedule than which none better is known is the one that is kept
--     LosesNothing                   what was known before still is
--     IsOneOf                        one of two schedules
use Rattle.std.specs.Prelude.{◌≡◌, ◌≤◌, ◌⊎◌, ℕ, Option, Some, IfSome, IsSomeAnd}
use Rattle.tsn_model.specs.Network.{Network}
use Rattle.tsn_model.specs.Schedule.{flowspan}
use Rattle.tsn_model.specs.Search.{kept_of}
use Rattle.tsn_timing.specs.Solution.{Solution, IsSolved}
use Rattle.tsn_book.specs.Book.{Progress}
use Rattle.tsn_branch.specs.Bound.{IsLowerBound}
use Rattle.tsn_answer.specs.declared.known.Known.{Known}

-- the schedule, if one is known, is valid and has its flowspan; and no valid schedule's flowspan is below the bound, which is at most the cycle
pub record IsKnown (network : Network) (known : Known) : Type 0 where
  pub best : IfSome known.best (IsSolved network)
  pub bound : IsLowerBound network known.bound
  pub within_cycle : known.bound ≤ network.cycle

-- a schedule is known whose flowspan is at most so much
abbrev pub KnowsWithin : Known → ℕ → Type 0
KnowsWithin known span = IsSomeAnd known.best (λ solution. solution.flowspan ≤ span)

-- a schedule is known, and it is this one where it has its flowspan
abbrev pub IsKeptIfBest : Solution → Known → Type 0
IsKeptIfBest solution known = IsSomeAnd known.best (λ best. best.flowspan ≡ solution.flowspan → best ≡ solution)

-- where the book has kept a schedule, one is known that is no longer
abbrev pub HoldsKept : Network → Progress → Known → Type 0
HoldsKept network book known = IfSome (kept_of network book.history) (λ offsets. KnowsWithin known (flowspan network offsets))

-- where a schedule was known, one is that is no longer; and the bound is no lower
pub record LosesNothing (before after : Known) : Type 0 where
  pub best : IfSome before.best (λ solution. KnowsWithin after solution.flowspan)
  pub bound : before.bound ≤ after.bound

-- it is the first schedule, if there is one, or the second
abbrev pub IsOneOf : Option Solution → Solution → Solution → Type 0
IsOneOf first second found = (first ≡ Some found) ⊎ (found ≡ second)
