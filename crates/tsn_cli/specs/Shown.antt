-- What is shown of a plan, before it is written.
--     shown_output, IsShownBy     its output
--     IsSaid, IsToldAs            it is an answer in a line; how it is told
--     NetworkAnswers              what a command answers that reads a network alone
use Rattle.std.specs.Prelude.{◌≡◌, ◌⊎◌, ℕ, [], ◌∷◌, Bool, string_bytes, Result, Ok, Err}
use Rattle.tsn_net.specs.File.{States}
use Rattle.tsn_timing.specs.Problem.{NamedNetwork}
use Rattle.tsn_device.specs.declared.device.ReadFault.{ReadFault}
use Rattle.tsn_cli.specs.declared.shown.Shown.{Shown}
use Rattle.tsn_cli.specs.declared.shown.Shown.TheVariants.{Text, Said}
use Rattle.tsn_outcome.specs.Run.{Command, Output, SinkRun}
use Rattle.tsn_outcome.specs.Runs.{IsToldBy}
use Rattle.tsn_outcome.specs.Outcome.{IsWrittenAs, output_of}
use Rattle.tsn_cli.specs.Refusal.{RefusesNetwork}

-- a text that was asked for, or an answer in a line
abbrev pub shown_output : Result Shown ReadFault → Output
shown_output (Ok (Text text remarks)) = record { status = 0; texts = string_bytes text ∷ [] }
shown_output (Ok (Said answer)) = output_of (Ok answer)
shown_output (Err fault) = output_of (Err fault)

abbrev pub IsShownBy : Result Shown ReadFault → Output → Type 0
IsShownBy shown output = output ≡ shown_output shown

abbrev pub IsSaid : Shown → Type 0
IsSaid (Text text remarks) = ⊥
IsSaid (Said answer) = Unit {0}

-- what is shown went to the output: a text, or the answer in a line, or what is said of that in JSON
abbrev pub IsToldAs : Bool → Result Shown ReadFault → SinkRun → ℕ → Type 0
IsToldAs json (Ok (Text text remarks)) output status = IsWrittenAs IsShownBy (Ok (Text text remarks)) (output ∷ []) status
IsToldAs json (Ok (Said answer)) output status = IsToldBy json (Ok answer) output status
IsToldAs json (Err fault) output status = IsToldBy json (Err fault) output status

-- the answer for a network file, by what is shown of the network
abbrev pub NetworkAnswers : (NamedNetwork → Output → Type 0) → Command
NetworkAnswers Shows (file ∷ []) output = RefusesNetwork file output ⊎ ((problem : NamedNetwork) × States file problem × Shows problem output)
NetworkAnswers Shows _ output = ⊥
