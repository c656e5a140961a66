-- What follows of a run over sources, and of one whose answer is told.
use Rattle.std.proofs.Common.{◌≡◌, ◌≢◌, ◌++◌, ◌∷◌, [], ℕ, List, Bool, true, false, Option, Result, Ok, Err, IfOk, rules}
use Rattle.tsn_device.specs.declared.device.ReadFault.{ReadFault}
use Rattle.tsn_outcome.specs.declared.answer.Answer.{Answer}
use Rattle.tsn_device.specs.declared.run.TheConstants.{DEVICE}
use Rattle.tsn_outcome.specs.Run.{Command, EndsOver, SinkRun, SourceRun, source_over}
use Rattle.tsn_outcome.specs.Said.{line_of, status_of}
use Rattle.tsn_outcome.specs.Outcome.{EndsAs, IsOutputOf, IsWrittenAs, line_taken, outcome_of}
use Rattle.tsn_outcome.proofs.LineLemmas.{ends_over, said_over}
use Rattle.tsn_outcome.specs.Runs.{IsToldBy, LeavesSource, OverSource, RunsTold}

-- a run over a source that was opened for it
pub over_source : {S : Type 0} {given : S → Option (List ℕ)} {failed : S → ℕ} {is_at_end : S → Bool} {IsAsked : S → Type 0}
    {holds : SourceRun → Type 0} (source left : S) → IsAsked source → failed source ≡ 0
    → holds (source_over given failed is_at_end source left) → OverSource given failed is_at_end IsAsked holds
over_source source left opened unfailing ran = (left, record { source = source; opened = opened; unfailing = unfailing; ran = ran })

-- what follows of a run that left a source so
pub leaves_over : {S : Type 0} {given : S → Option (List ℕ)} {failed : S → ℕ} {is_at_end : S → Bool} {IsAsked : S → Type 0} {left : S}
    {P Q : SourceRun → Type 0} → LeavesSource given failed is_at_end IsAsked left P → ((source : SourceRun) → P source → Q source)
    → OverSource given failed is_at_end IsAsked Q
leaves_over {left = left} run follows =
    (left, record { source = run.source; opened = run.opened; unfailing = run.unfailing; ran = follows _ run.ran })

pub over_along : {S : Type 0} {given : S → Option (List ℕ)} {failed : S → ℕ} {is_at_end : S → Bool} {IsAsked : S → Type 0}
    {P Q : SourceRun → Type 0} → OverSource given failed is_at_end IsAsked P → ((source : SourceRun) → P source → Q source)
    → OverSource given failed is_at_end IsAsked Q
over_along run follows = leaves_over run.1 follows

-- a run that has come to an outcome, which is then told
pub told_over : (json : Bool) (command : Command) (sources : List SourceRun) (files : List SinkRun) (answer : Result Answer ReadFault) (output : SinkRun)
    (status : ℕ) → EndsAs command sources files (outcome_of answer) → IsToldBy json answer output status
    → RunsTold json command sources files output status
told_over false command sources files answer output status ends told = said_over command sources files answer output status ends told
told_over true command sources files answer output status ends told = record { outcome = outcome_of answer; ends = ends; told = told }

-- what was written of an answer ends the run
pub ends_told : (command : Command) (sources : List SourceRun) (files : List SinkRun) (answer : Result Answer ReadFault) (output : SinkRun) (status : ℕ)
    → EndsOver command sources (files ++ line_taken (line_of (outcome_of answer)) ∷ []) (status_of (outcome_of answer))
    → IsWrittenAs IsOutputOf answer (output ∷ []) status → status ≢ DEVICE → EndsOver command sources (files ++ output ∷ []) status
ends_told command sources files answer output status ends written done =
    ends_over command sources files answer output status (λ broken. done (written.unread broken).0) written ends done

-- what follows of a value, where there was no error
pub ok_along : {T E : Type 0} (result : Result T E) (P Q : T → Type 0) → IfOk result P → ((x : T) → P x → Q x) → IfOk result Q
ok_along result P Q holds follows = search rules
