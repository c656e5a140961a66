-- What `valid` answers.
use Rattle.std.specs.Prelude.{◌⊎◌, ℕ, List, [], ◌∷◌}
use Rattle.tsn_model.specs.declared.Violation.{Violation}
use Rattle.tsn_model.specs.Network.{Network}
use Rattle.tsn_model.specs.Schedule.{IsValid, IsFirstViolation, flowspan}
use Rattle.tsn_net.specs.File.{States}
use Rattle.tsn_timing.specs.Problem.{NamedNetwork}
use Rattle.tsn_outcome.specs.declared.outcome.Outcome.TheVariants.{Valid, NotValid}
use Rattle.tsn_outcome.specs.Run.{Output, Command}
use Rattle.tsn_outcome.specs.Outcome.{IsOutcome}
use Rattle.tsn_cli.specs.Refusal.{RefusesNetwork}

-- the offsets are a valid schedule
abbrev pub Accepts : Network → List ℕ → Output → Type 0
Accepts network offsets output = IsValid network offsets × IsOutcome (Valid (flowspan network offsets)) output

-- they are none, and this is the first reason
abbrev pub Rejects : Network → List ℕ → Output → Type 0
Rejects network offsets output = (violation : Violation) × IsFirstViolation network offsets violation × IsOutcome (NotValid violation) output

-- the answer for a network file and these offsets
abbrev pub ValidAnswers : List ℕ → Command
ValidAnswers offsets (file ∷ []) output =
    RefusesNetwork file output ⊎ ((problem : NamedNetwork) × States file problem × (Accepts problem.network offsets output ⊎ Rejects problem.network offsets output))
ValidAnswers offsets _ output = ⊥
