-- How a run that searches ends, and what is told of it as a value.
use Rattle.std.proofs.Common.{◌≡◌, ℕ, List, [], ◌∷◌, Option, Some, None, Result, Ok, Err, IfOk, IfSome, refl, sym, ap, ◌∙◌, string_bytes, subst, arith}
use Rattle.tsn_device.specs.declared.device.ReadFault.{ReadFault}
use Rattle.tsn_device.specs.declared.device.ReadFault.TheVariants.{Broken}
use Rattle.tsn_outcome.specs.declared.answer.Answer.{Answer}
use Rattle.tsn_outcome.specs.declared.outcome.Outcome.{Outcome}
use Rattle.tsn_outcome.specs.Run.{Command, EndsOver, IsLine, Output, RunsOver, SinkRun, SourceRun, writing_of}
use Rattle.tsn_outcome.specs.Said.{line_of, status_of}
use Rattle.tsn_outcome.specs.Outcome.{ComesOver, EndsAs, IsWrittenAs, line_taken, outcome_of, told}
use Rattle.tsn_outcome.proofs.RunLemmas.{Appends-nothing, Keeps-same, TellsFaults, runs_with, some_of}
use Rattle.tsn_cli.specs.declared.run_output.RunOutput.{RunOutput}
use Rattle.tsn_cli.specs.RunOutput.{Knows, printed}

-- what follows of a value, where there is one
pub some_along : {X : Type 0} (found : Option X) (P Q : X → Type 0) → IfSome found P → ((x : X) → P x → Q x) → IfSome found Q
some_along None P Q holds follows = tt
some_along (Some x) P Q holds follows = follows x holds

-- what is printed, by its outcome and texts
pub printed_is : {S : Type 0} (text : S → List ℕ) (output : RunOutput S) (outcome : Outcome) (one two : List ℕ) → output.answer.outcome ≡ outcome
    → string_bytes output.first ≡ one → text output.second ≡ two
    → printed text (Ok output) ≡ record { status = status_of outcome; texts = one ∷ two ∷ line_of outcome ∷ [] }
printed_is text output outcome one two same first second = rw (same, first, second)

-- a line that is refused is printed alone
pub refused_line : {S : Type 0} (text : S → List ℕ) (output : RunOutput S) (outcome : Outcome) (line : List ℕ) → output.answer.outcome ≡ outcome
    → string_bytes output.first ≡ [] → text output.second ≡ [] → IsLine 3 line (told outcome) → IsLine 3 line (printed text (Ok output))
refused_line text output outcome line same first second (three, is) =
    subst (λ (o : Output). IsLine 3 line o) (sym (printed_is text output outcome [] [] same first second)) (three, (refl, (refl, is)))

-- how a fault of a source is printed
pub printed_faults : {S : Type 0} (text : S → List ℕ) → TellsFaults (printed text)
printed_faults text = record { too_long = (refl, (refl, (refl, refl))); memory = (refl, (refl, (refl, refl))) }

-- a sink over a run in which it was left alone
abbrev left_alone : Option (List ℕ) → ℕ → SinkRun
left_alone taken failed = record { writing = writing_of taken taken; writes = record { before = failed; after = failed } }

module _ {S : Type 0} (text : S → List ℕ) (one two : Option (List ℕ)) (one_failed two_failed : ℕ) where
  abbrev left : ReadFault → List SinkRun
  left fault = left_alone one one_failed ∷ left_alone two two_failed ∷ line_taken (line_of (outcome_of (Err fault))) ∷ []

  -- where a file wasn't read, none is written
  fault_told : (fault : ReadFault)
      → IsWrittenAs {A = RunOutput S} (λ o shown. shown ≡ printed text o) (Err fault) (left fault) (status_of (outcome_of (Err fault)))
  fault_told Broken = record {
    whole = λ done. absurd (done refl);
    unread = λ broken. (refl, (Keeps-same one, (Keeps-same two, Keeps-same (Some []))), (refl, (refl, refl)));
    device = λ device unbroken. absurd (unbroken refl);
    beginning = λ failed. absurd (failed refl);
  }
  fault_told fault = record {
    whole = λ done. (printed text (Err fault), refl, refl, (Appends-nothing one, (Appends-nothing two, (refl, tt))), (refl, (refl, refl)));
    unread = λ broken. cc;
    device = λ device unbroken. absurd (omega (arith, device));
    beginning = λ failed. absurd (failed refl);
  }

  pub fault_ends : (command : Command) (sources : List SourceRun) (fault : ReadFault) → ComesOver {A = RunOutput S} (printed text) command sources (Err fault)
      → EndsAs command sources (left_alone one one_failed ∷ left_alone two two_failed ∷ []) (outcome_of (Err fault))
  fault_ends command sources fault comes =
      runs_with (printed text) command sources (left fault) (Err fault) (status_of (outcome_of (Err fault))) comes (fault_told fault)

-- what a run answers is told as a value; of a fault none is
module _ {X : Type 0} (value : Outcome → Option X) (tells : X → Command) (of_fault : (fault : ReadFault) → value (outcome_of (Err fault)) ≡ None) where
  pub none_of_fault : (P : X → Type 0) (fault : ReadFault) → IfSome (value (outcome_of (Err fault))) P
  none_of_fault P fault = subst (λ found. IfSome found P) (sym (of_fault fault)) tt

  -- what was known of what was to be written; the run itself says over which sources and files
  pub value_told : {S : Type 0} (text : S → List ℕ) (Prints : Result (RunOutput S) ReadFault → Output → Type 0) (sources : List SourceRun)
      (sinks : List SinkRun) (output : RunOutput S) (answer : Result Answer ReadFault) (ran : Command)
      → RunsOver ran sources sinks (status_of (outcome_of answer)) → Knows text value tells sources (Ok output)
      → IsWrittenAs Prints (Ok output) sinks (status_of (outcome_of answer)) → IfOk answer (λ a. a.outcome ≡ output.answer.outcome)
      → ((shown : Output) (x : X) → Prints (Ok output) shown → value output.answer.outcome ≡ Some x → shown.status ≡ status_of output.answer.outcome
      → shown ≡ printed text (Ok output))
      → IfSome (value (outcome_of answer)) (λ x. EndsOver (tells x) sources sinks (status_of (outcome_of answer)))
  value_told text Prints sources sinks output (Err fault) ran runs knows written same whole = none_of_fault _ fault
  value_told text Prints sources sinks output (Ok answer) ran runs knows written same whole =
      some_of (value answer.outcome) _
      (λ x is.
      let all = written.whole (λ device. omega (arith, answer.not_device, device)) in
      let kept : value output.answer.outcome ≡ Some x = ap value (sym same) ∙ is in
      let shown : all.0 ≡ printed text (Ok output) = whole all.0 x all.1 kept (sym all.2 ∙ ap status_of same) in
      record { output = all.0; answer = rw shown (rw kept at knows); status_is = all.2; written = all.3 })
