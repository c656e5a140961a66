-- The outcome of a run before it is written, how far the run has come with it, and how it is written.
--     told, IsOutcome               the output that is an outcome's line
--     outcome_of, output_of         what a run answers, as a value, and its output
--     ComesTo, ComesFrom, ComesOver how far a run has come
--     TellsFailures                 a read failed where the outcome says so
--     IsWrittenAs                   the output was written
--     line_taken, EndsAs            a run that has come to an outcome whose line isn't written yet
use Rattle.std.specs.Prelude.{◌≡◌, ◌≢◌, ◌+◌, ℕ, ◌⊎◌, List, [], ◌∷◌, ◌++◌, codes, Result, Ok, Err, Some}
use Rattle.tsn_outcome.specs.declared.answer.Answer.{Answer}
use Rattle.tsn_outcome.specs.declared.outcome.Outcome.{Outcome}
use Rattle.tsn_outcome.specs.declared.outcome.Outcome.TheVariants as ends
use Rattle.tsn_device.specs.declared.device.ReadFault.{ReadFault}
use Rattle.tsn_device.specs.declared.device.ReadFault.TheVariants.{Broken, TooLong, Memory}
use Rattle.tsn_device.specs.declared.run.TheConstants.{DEVICE}
use Rattle.tsn_outcome.specs.Said.{line_of, status_of}
use Rattle.tsn_outcome.specs.Run.{AreUnwritten, Output, Command, Reading, Answers, BreaksOff, Failures, IsLine, NoneFailed, RunsOver, SinkRun, SourceRun, TakesAll, TakesBeginning, failed_after, failed_before, readings_of, reads_of, writes_of, writing_of, writings_of}

-- the output that is the line of an outcome, with its status
abbrev pub told : Outcome → Output
told outcome = record { status = status_of outcome; texts = line_of outcome ∷ [] }

-- the output is the line of this outcome, with its status, and else nothing
abbrev pub IsOutcome : Outcome → Output → Type 0
IsOutcome outcome output = IsLine (status_of outcome) (line_of outcome) output

-- what a run answers, as a value
abbrev pub outcome_of : Result Answer ReadFault → Outcome
outcome_of (Ok answer) = answer.outcome
outcome_of (Err TooLong) = ends.TooLong
outcome_of (Err Memory) = ends.NoMemory
outcome_of (Err Broken) = ends.Failed

abbrev pub output_of : Result Answer ReadFault → Output
output_of answer = told (outcome_of answer)

abbrev pub IsOutputOf : Result Answer ReadFault → Output → Type 0
IsOutputOf outcome output = output ≡ output_of outcome

-- what becomes of a run that has read these files and has these sources left, by the output of its outcome: a read failed, or it has an output
abbrev pub ComesTo : {A : Type 0} → (Result A ReadFault → Output) → Command → List (List ℕ) → List Reading → Result A ReadFault → Type 0
ComesTo output command files readings (Err Broken) = BreaksOff command files readings
ComesTo output command files readings outcome = Answers command files readings (output outcome) ⊎ IsLine 7 (codes "no memory\n") (output outcome)

-- one read failed where the outcome is that, and else none
pub record TellsFailures {A : Type 0} (reads : List Failures) (outcome : Result A ReadFault) : Type 0 where
  pub broken : outcome ≡ Err Broken → failed_after reads ≡ failed_before reads + 1
  pub kept : (outcome ≡ Err Broken → ⊥) → NoneFailed reads

-- a run that has read these files comes to this over these sources
pub record ComesFrom {A : Type 0} (output : Result A ReadFault → Output) (command : Command) (files : List (List ℕ)) (sources : List SourceRun)
    (outcome : Result A ReadFault) : Type 0 where
  pub comes : ComesTo output command files (readings_of sources) outcome
  pub failures : TellsFailures (reads_of sources) outcome

-- and one that has read none
abbrev pub ComesOver : {A : Type 0} → (Result A ReadFault → Output) → Command → List SourceRun → Result A ReadFault → Type 0
ComesOver output command sources outcome = ComesFrom output command [] sources outcome

-- The outcome has such an output, which was written to these sinks, and this is the status; or a read had failed; or a write did, and a beginning was
-- written.
pub record IsWrittenAs {A : Type 0} (Prints : Result A ReadFault → Output → Type 0) (outcome : Result A ReadFault) (sinks : List SinkRun) (status : ℕ)
    : Type 0 where
  pub whole : status ≢ DEVICE → (output : Output) × Prints outcome output × (status ≡ output.status) × TakesAll (writings_of sinks) output.texts
      × NoneFailed (writes_of sinks)
  pub unread : outcome ≡ Err Broken → (status ≡ DEVICE) × AreUnwritten (writings_of sinks) × NoneFailed (writes_of sinks)
  pub device : status ≡ DEVICE → (outcome ≡ Err Broken → ⊥) → failed_after (writes_of sinks) ≡ failed_before (writes_of sinks) + 1
  pub beginning : failed_after (writes_of sinks) ≢ failed_before (writes_of sinks) → (outcome ≡ Err Broken → ⊥)
      × ((output : Output) × Prints outcome output × TakesBeginning (writings_of sinks) output.texts)

-- what took this line whole, and nothing else
abbrev pub line_taken : List ℕ → SinkRun
line_taken line = record { writing = writing_of (Some []) (Some line); writes = record { before = 0; after = 0 } }

-- A run over these sources and files has come to this outcome, and its line isn't written yet: what takes it whole is the last sink of a run that ended with
-- the status of the outcome.
abbrev pub EndsAs : Command → List SourceRun → List SinkRun → Outcome → Type 0
EndsAs command sources files outcome = RunsOver command sources (files ++ line_taken (line_of outcome) ∷ []) (status_of outcome)
