-- How a run ended before its search, since a file of it can't be made.
--     JudgeAnswers                   the answer on the network alone
--     IsUnmadeOutcome                what is answered, by what is of the network alone
--     UnmadeTold                     the network alone was judged, and that was told
--     IsUnmade                       it was, or memory was refused
use Rattle.std.specs.Prelude.{◌≡◌, ◌≢◌, ◌⊎◌, ℕ, List, [], ◌∷◌, Bool, Option, Result, codes}
use Rattle.tsn_device.specs.declared.device.ReadFault.{ReadFault}
use Rattle.tsn_outcome.specs.declared.answer.Answer.{Answer}
use Rattle.tsn_outcome.specs.declared.outcome.Outcome.{Outcome}
use Rattle.tsn_outcome.specs.declared.outcome.Outcome.TheVariants.{Failed, Taken}
use Rattle.tsn_outcome.specs.declared.run.TheConstants.{DONE, MEMORY}
use Rattle.tsn_net.specs.File.{States}
use Rattle.tsn_timing.specs.Problem.{NamedNetwork}
use Rattle.tsn_outcome.specs.Outcome.{IsOutcome, EndsAs, outcome_of}
use Rattle.tsn_cli.specs.Refusal.{RefusesNetwork}
use Rattle.tsn_outcome.specs.Run.{Command, SinkRun, SourceRun}
use Rattle.tsn_outcome.specs.Said.{status_of}
use Rattle.tsn_outcome.specs.Runs.{IsToldBy, OverNetwork, Says}

-- the answer for a network file that is judged alone: nothing is said of one that is taken
abbrev pub JudgeAnswers : Command
JudgeAnswers (file ∷ []) output = RefusesNetwork file output ⊎ ((problem : NamedNetwork) × States file problem × IsOutcome Taken output)
JudgeAnswers _ output = ⊥

-- what is answered where the network was judged so: that it is refused, or else that a device failed
abbrev pub IsUnmadeOutcome : Outcome → Outcome → Type 0
IsUnmadeOutcome judged outcome = ((status_of judged ≡ DONE) × (outcome ≡ Failed)) ⊎ ((status_of judged ≢ DONE) × (outcome ≡ judged))

-- the network alone was judged, and what is answered then was told: in a line, or with `--json` in an object
pub record UnmadeTold (json : Bool) (sources : List SourceRun) (output : SinkRun) (status : ℕ) : Type 0 where
  pub judged : Outcome
  pub answer : Result Answer ReadFault
  pub ends : EndsAs JudgeAnswers sources [] judged
  pub unmade : IsUnmadeOutcome judged (outcome_of answer)
  pub told : IsToldBy json answer output status

-- no search began: memory is refused, or the network alone is judged
abbrev pub IsUnmade : {S : Type 0} → (S → Option (List ℕ)) → (S → ℕ) → (S → Bool) → (S → Type 0) → Bool → SinkRun → ℕ → Type 0
IsUnmade given failed is_at_end opens_network json output status =
    Says MEMORY (codes "no memory\n") output status
    ⊎ OverNetwork given failed is_at_end opens_network (λ sources. UnmadeTold json sources output status)
