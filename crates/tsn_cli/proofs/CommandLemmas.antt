-- How what is shown tells a fault, and what a run ends with that tells it.
use Rattle.std.proofs.Common.{ℕ, List, [], ◌∷◌, Bool, true, false, IsTrue, Result, Ok, Err, IfOk, refl}
use Rattle.tsn_device.specs.declared.device.ReadFault.{ReadFault}
use Rattle.tsn_device.specs.declared.device.ReadFault.TheVariants.{Broken}
use Rattle.tsn_outcome.specs.declared.answer.Answer.{Answer}
use Rattle.tsn_outcome.specs.Outcome.{ComesOver, IsWrittenAs, TellsFailures, output_of}
use Rattle.tsn_outcome.specs.Run.{Command, Failures, RunsOver, SinkRun, SourceRun}
use Rattle.tsn_outcome.specs.Runs.{RunsTold}
use Rattle.tsn_cli.specs.declared.shown.Shown.{Shown}
use Rattle.tsn_cli.specs.declared.shown.Shown.TheVariants.{Text, Said}
use Rattle.tsn_cli.specs.Shown.{IsSaid, IsShownBy, IsToldAs, shown_output}
use Rattle.tsn_outcome.proofs.LineLemmas.{ends_as}
use Rattle.tsn_outcome.proofs.RunLemmas.{TellsFaults, runs_with, tells_ok}
use Rattle.tsn_outcome.proofs.RunsLemmas.{told_over}

-- how what is shown tells a fault of a source
pub shown_faults : TellsFaults shown_output
shown_faults = record { too_long = (refl, refl); memory = (refl, refl) }

tells_err : {A B : Type 0} (reads : List Failures) (fault : ReadFault) → TellsFailures {A = A} reads (Err fault) → TellsFailures {A = B} reads (Err fault)
tells_err reads Broken tells = record { broken = λ is. tells.broken refl; kept = λ unbroken. absurd (unbroken refl) }
tells_err reads _ tells = record { broken = λ is. cc; kept = λ unbroken. tells.kept (λ is. cc) }

-- a run that comes to an answer in a line, or to none
said : (command : Command) (sources : List SourceRun) (answer : Answer) → ComesOver shown_output command sources (Ok (Said answer))
    → ComesOver output_of command sources (Ok answer)
said command sources answer over = record { comes = over.comes; failures = tells_ok _ _ _ over.failures }

broken : (command : Command) (sources : List SourceRun) (fault : ReadFault) → ComesOver shown_output command sources (Err fault)
    → ComesOver output_of command sources (Err fault)
broken command sources fault over = record { comes = over.comes; failures = tells_err _ fault over.failures }

-- a run of which what is shown was told; as JSON, where it is an answer in a line
pub shown_told : (json : Bool) (command : Command) (sources : List SourceRun) (shown : Result Shown ReadFault) (output : SinkRun) (status : ℕ)
    → (IsTrue json → IfOk shown IsSaid) → ComesOver shown_output command sources shown → IsToldAs json shown output status
    → RunsTold json command sources [] output status
shown_told json command sources (Ok (Said answer)) output status line over told =
    told_over json command sources [] (Ok answer) output status (ends_as command sources (Ok answer) (said command sources answer over)) told
shown_told json command sources (Err fault) output status line over told =
    told_over json command sources [] (Err fault) output status (ends_as command sources (Err fault) (broken command sources fault over)) told
shown_told false command sources (Ok (Text text remarks)) output status line over told =
    runs_with shown_output command sources (output ∷ []) (Ok (Text text remarks)) status over told
shown_told true command sources (Ok (Text text remarks)) output status line over told = absurd (line refl)
