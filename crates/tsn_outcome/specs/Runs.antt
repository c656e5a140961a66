-- How a command ran over what it was given.
--     WithSome                             a run with some options that words ask for
--     LeavesSource, OverSource             a run with some source that a word names
--     OverNetwork, OverPlan, OverCert      a run with some sources that words name
--     IsObjectOf, IsSaid                   what is said in JSON of an outcome
--     Says, IsTellingOf, IsToldBy          that it was said, or the line written
--     RunsInJson                           a run of which it was said
--     RunsTold                             a run of which the line, or an object in its place, goes to standard output
use Rattle.std.specs.Prelude.{◌≡◌, ◌≢◌, ◌⊎◌, ℕ, List, [], ◌∷◌, ◌++◌, Bool, true, false, take, codes, Option, Result}
use Rattle.std.specs.Io.KnownBytes.{Appends}
use Rattle.tsn_device.specs.declared.run.TheConstants.{DEVICE}
use Rattle.tsn_outcome.specs.declared.run.TheConstants.{MEMORY}
use Rattle.tsn_device.specs.declared.device.ReadFault.{ReadFault}
use Rattle.tsn_outcome.specs.declared.answer.Answer.{Answer}
use Rattle.tsn_outcome.specs.declared.outcome.Outcome.{Outcome}
use Rattle.tsn_outcome.specs.Run.{Command, RunsOver, SinkRun, SourceRun, source_over}
use Rattle.tsn_outcome.specs.Said.{status_of}
use Rattle.tsn_outcome.specs.Outcome.{EndsAs, IsOutputOf, IsWrittenAs, outcome_of}
use Rattle.tsn_outcome.specs.Told.{told_text}

-- it holds with some value of which this is so
abbrev pub WithSome : {S : Type 0} → (S → Type 0) → (S → Type 0) → Type 0
WithSome {S} IsAsked holds = (value : S) × (IsAsked value × holds value)

-- it holds of a run over some source of which this is so and no read had failed, and which the run left like this
pub record LeavesSource {S : Type 0} (given : S → Option (List ℕ)) (failed : S → ℕ) (is_at_end : S → Bool) (IsAsked : S → Type 0) (left : S)
    (holds : SourceRun → Type 0) : Type 0 where
  pub source : S
  pub opened : IsAsked source
  pub unfailing : failed source ≡ 0
  pub ran : holds (source_over given failed is_at_end source left)

-- and which it left somehow
abbrev pub OverSource : {S : Type 0} → (S → Option (List ℕ)) → (S → ℕ) → (S → Bool) → (S → Type 0) → (SourceRun → Type 0) → Type 0
OverSource {S} given failed is_at_end IsAsked holds = (left : S) × LeavesSource given failed is_at_end IsAsked left holds

-- over a network; over it and a plan; over these and a certificate
abbrev pub OverNetwork : {S : Type 0} → (S → Option (List ℕ)) → (S → ℕ) → (S → Bool) → (S → Type 0) → (List SourceRun → Type 0) → Type 0
OverNetwork given failed is_at_end opens_network holds = OverSource given failed is_at_end opens_network (λ network. holds (network ∷ []))

abbrev pub OverPlan : {S : Type 0} → (S → Option (List ℕ)) → (S → ℕ) → (S → Bool) → (S → Type 0) → (S → Type 0) → (List SourceRun → Type 0) → Type 0
OverPlan given failed is_at_end opens_network opens_plan holds =
    OverSource given failed is_at_end opens_network (λ network. OverSource given failed is_at_end opens_plan (λ plan. holds (network ∷ plan ∷ [])))

abbrev pub OverCert : {S : Type 0} → (S → Option (List ℕ)) → (S → ℕ) → (S → Bool) → (S → Type 0) → (S → Type 0) → (S → Type 0)
    → (List SourceRun → Type 0) → Type 0
OverCert given failed is_at_end opens_network opens_plan opens_cert holds =
    OverSource given failed is_at_end opens_network (λ network. OverSource given failed is_at_end opens_plan
    (λ plan. OverSource given failed is_at_end opens_cert (λ cert. holds (network ∷ plan ∷ cert ∷ []))))

-- ---- what is said of a run

-- the object of JSON that tells of an outcome; its reason is any
abbrev pub IsObjectOf : Outcome → List ℕ → Type 0
IsObjectOf outcome text = (reason : Option (List ℕ)) × (text ≡ told_text outcome reason)

-- what is said, and with which status, of a run that ended so: an object, with the run's status; or that memory was refused, to the run or to the object;
-- or nothing, where a device failed and memory was refused to the object
abbrev pub IsSaid : Outcome → ℕ → List ℕ → Type 0
IsSaid outcome said text =
    ((status_of outcome ≢ MEMORY) × (said ≡ status_of outcome) × IsObjectOf outcome text)
    ⊎ (((status_of outcome ≢ DEVICE) × (said ≡ MEMORY) × (text ≡ codes "no memory\n"))
    ⊎ ((status_of outcome ≡ DEVICE) × (said ≡ DEVICE) × (text ≡ [])))

-- the output took this text, and the status is this one; or a write failed, the output took a beginning of the text, and the status says so
pub record Says (said : ℕ) (text : List ℕ) (output : SinkRun) (status : ℕ) : Type 0 where
  pub whole : output.writes.after ≡ output.writes.before → (status ≡ said) × Appends output.writing.before output.writing.after text
  pub beginning : output.writes.after ≢ output.writes.before
      → (status ≡ DEVICE) × ((n : ℕ) × Appends output.writing.before output.writing.after (take n text))

-- what is said of such a run was said
pub record IsTellingOf (outcome : Outcome) (output : SinkRun) (status : ℕ) : Type 0 where
  pub said : ℕ
  pub text : List ℕ
  pub is_said : IsSaid outcome said text
  pub says : Says said text output status

-- what a run answers went to the output: its line, or what is said of it in JSON
abbrev pub IsToldBy : Bool → Result Answer ReadFault → SinkRun → ℕ → Type 0
IsToldBy false answer output status = IsWrittenAs IsOutputOf answer (output ∷ []) status
IsToldBy true answer output status = IsTellingOf (outcome_of answer) output status

-- a run over these files came to an outcome, and what is said of that went to the output, in the place of its line
pub record RunsInJson (command : Command) (sources : List SourceRun) (files : List SinkRun) (output : SinkRun) (status : ℕ) : Type 0 where
  pub outcome : Outcome
  pub ends : EndsAs command sources files outcome
  pub told : IsTellingOf outcome output status

-- how a run ended over these sources and files, and the output: that took the run's line, or with `--json` what is said of it
abbrev pub RunsTold : Bool → Command → List SourceRun → List SinkRun → SinkRun → ℕ → Type 0
RunsTold false command sources files output status = RunsOver command sources (files ++ output ∷ []) status
RunsTold true command sources files output status = RunsInJson command sources files output status
