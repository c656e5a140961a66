-- A walk below a node, and what is looked at on it together.
--     StandsAt, IsBelow          where the walk stands
--     IsProved, HoldsSchedule    what is found at one node
--     IsBatch                    what is found at several
use Rattle.std.specs.Prelude.{◌≡◌, ℕ, ◌≤◌, ◌<◌, List, [], ◌∷◌, ◌++◌, map, length, All, Option, MatchOption}
use Rattle.tsn_model.specs.declared.Triple.{Triple}
use Rattle.tsn_model.specs.declared.Decision.{Decision}
use Rattle.tsn_model.specs.Network.{Network}
use Rattle.tsn_model.specs.Search.{Outcome, split, solved, pruned, tied, refuted}
use Rattle.tsn_model.specs.Core.{IsAboveSeen}
use Rattle.tsn_timing.specs.Solution.{Solution, IsSolved}
use Rattle.tsn_conflict.specs.Outcome.{outcome_of}
use Rattle.tsn_conflict.specs.Path.{Fits}
use Rattle.tsn_conflict.specs.Right.{HasProof, SplitsUndecided}
use Rattle.tsn_branch.specs.Descent.{Position, Stands}
use Rattle.tsn_book.specs.Below.{events_below}
use Rattle.tsn_conflict.specs.Outcome.{IsSolvedBy, IsUnsolved}
use Rattle.tsn_walk.specs.declared.below.Below.{Below}
use Rattle.tsn_walk.specs.declared.below.Batch.{Batch}

-- the way leads to that path, which decides conflicts alone
pub record StandsAt (network : Network) (triples : List Triple) (path : List Decision) (position : Position) : Type 0 where
  pub at : position.path ≡ path
  pub stands : Stands network position
  pub fits : Fits triples position.path

abbrev pub IsBelow : Network → List Triple → Below → Type 0
IsBelow network triples below = StandsAt network triples below.from below.descent

-- what was found at the path is right
abbrev pub IsProved : Network → List Decision → Outcome → Type 0
IsProved network path outcome = HasProof network path outcome × SplitsUndecided network path outcome

-- the outcome is solved by this schedule
abbrev pub IsScheduleOf : Outcome → Solution → Type 0
IsScheduleOf (split triple) solution = ⊥
IsScheduleOf (solved offsets bound leaf chains) solution = (solution.offsets ≡ offsets) × (solution.flowspan ≡ bound)
IsScheduleOf (pruned bound leaf) solution = ⊥
IsScheduleOf (tied bound leaf chains) solution = ⊥
IsScheduleOf (refuted leaf) solution = ⊥

-- where the outcome is solved this is its schedule, of a flowspan below the target, and else there is none
abbrev pub HoldsSchedule : Network → ℕ → Outcome → Option Solution → Type 0
HoldsSchedule network target outcome schedule =
    MatchOption schedule (IsUnsolved outcome) (λ solution. IsSolved network solution × IsSolvedBy solution.flowspan outcome × (solution.flowspan < target))

-- of the outcomes the last alone is solved, by this schedule, of a flowspan of at most what was seen
pub record EndsSolved (network : Network) (seen : ℕ) (outcomes : List Outcome) (solution : Solution) : Type 0 where
  pub front : List Outcome
  pub last : Outcome
  pub is : outcomes ≡ front ++ last ∷ []
  pub unsolved : All IsUnsolved front
  pub schedule : IsSolved network solution
  pub by : IsSolvedBy solution.flowspan last
  pub least : solution.flowspan ≤ seen

-- the outcomes of a batch
abbrev pub outcomes_of : Batch → List Outcome
outcomes_of batch = map outcome_of batch.looks

-- 1 to 64 outcomes of a walk from that path, each right where it was found, and pruned by nothing but what is worse than what was seen; at most the last is solved, by the batch's schedule
pub record IsBatch (network : Network) (seen : ℕ) (path : List Decision) (batch : Batch) : Type 0 where
  pub proofs : All (λ event. IsProved network event.path event.outcome) (events_below path (outcomes_of batch))
  pub above : All (IsAboveSeen network seen) (outcomes_of batch)
  pub some : 1 ≤ length batch.looks
  pub few : length batch.looks ≤ 64
  pub ends : MatchOption batch.solved (All IsUnsolved (outcomes_of batch)) (EndsSolved network seen (outcomes_of batch))
