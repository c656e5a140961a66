-- A run that has come to an outcome, and the sink that takes its line.
use Rattle.std.proofs.Common.{◌≡◌, ◌≢◌, ◌⊎◌, ◌+◌, inl, inr, ℕ, List, [], ◌∷◌, ◌++◌, take, Option, Some, None, Result, Ok, Err, All, append-nil, rules, refl, ap, sym, ◌∙◌, subst, arith}
use Rattle.std.proofs.lemmas.List.Elements.{All-cons, All-head, All-nil, All-tail}
use Rattle.std.proofs.lemmas.List.Sums.{sum_by-cons}
use Rattle.std.specs.Io.KnownBytes.{Appends, Keeps}
use Rattle.tsn_device.specs.declared.device.ReadFault.{ReadFault}
use Rattle.tsn_device.specs.declared.device.ReadFault.TheVariants.{Broken, TooLong, Memory}
use Rattle.tsn_device.specs.declared.run.TheConstants.{DEVICE}
use Rattle.tsn_outcome.specs.declared.answer.Answer.{Answer}
use Rattle.tsn_outcome.specs.Run.{AreUnwritten, Command, EndsEarly, EndsOver, Failures, IsUnwritten, NoneFailed, Output, RunsOver, SinkRun, SourceRun, TakesAll, TakesBeginning, failed_after, failed_before, readings_of, reads_of, writes_of, writings_of}
use Rattle.tsn_outcome.specs.Said.{line_of, status_of}
use Rattle.tsn_outcome.specs.Outcome.{ComesOver, EndsAs, IsOutputOf, IsWrittenAs, line_taken, outcome_of, output_of}
use Rattle.tsn_outcome.proofs.RunLemmas.{Keeps-same, none_failed, runs_with}

-- an answer has another status than a device that failed
still : (answer : Result Answer ReadFault) → (answer ≡ Err Broken → ⊥) → status_of (outcome_of answer) ≢ DEVICE
still (Ok answer) unbroken = λ device. omega (arith, device, answer.not_device)
still (Err fault) unbroken = search rules

-- what took a line whole
taken_whole : (answer : Result Answer ReadFault)
    → IsWrittenAs IsOutputOf answer (line_taken (line_of (outcome_of answer)) ∷ []) (status_of (outcome_of answer))
taken_whole (Ok answer) = search (rules, still)
taken_whole (Err fault) = search rules

-- so a run that answers comes to its outcome
pub ends_as : (command : Command) (sources : List SourceRun) (answer : Result Answer ReadFault) → ComesOver output_of command sources answer
    → EndsAs command sources [] (outcome_of answer)
ends_as command sources answer comes =
    runs_with output_of command sources (line_taken (line_of (outcome_of answer)) ∷ []) answer (status_of (outcome_of answer)) comes (taken_whole answer)

-- ---- another sink in the place of the last one

module _ (taken output : SinkRun) where
  takes_all : (files : List SinkRun) (texts : List (List ℕ))
      → ((text : List ℕ) → Appends taken.writing.before taken.writing.after text → Appends output.writing.before output.writing.after text)
      → TakesAll (writings_of (files ++ taken ∷ [])) texts → TakesAll (writings_of (files ++ output ∷ [])) texts
  takes_all [] texts moves all = search rules
  takes_all (file ∷ files) [] moves all = all
  takes_all (file ∷ files) (text ∷ texts) moves (took, rest) = (took, takes_all files texts moves rest)

  begins : (files : List SinkRun) (texts : List (List ℕ))
      → ((text : List ℕ) → Appends taken.writing.before taken.writing.after text
      → (n : ℕ) × Appends output.writing.before output.writing.after (take n text))
      → TakesAll (writings_of (files ++ taken ∷ [])) texts → TakesBeginning (writings_of (files ++ output ∷ [])) texts
  begins [] (text ∷ texts) moves (took, rest) = let part = moves text took in inl (part.0, part.1, All-nil IsUnwritten)
  begins (file ∷ files) (text ∷ texts) moves (took, rest) = inr (took, begins files texts moves rest)
  begins [] [] moves all = absurd all
  begins (file ∷ files) [] moves all = absurd all

  all_unwritten : (files : List SinkRun) → IsUnwritten output.writing → All IsUnwritten (writings_of (files ++ taken ∷ []))
      → All IsUnwritten (writings_of (files ++ output ∷ []))
  all_unwritten [] left all = search (rules, All-cons, All-nil)
  all_unwritten (file ∷ files) left all = search (rules, All-cons, All-head, All-tail, all_unwritten files left)

  begins_still : (files : List SinkRun) (texts : List (List ℕ)) → IsUnwritten output.writing
      → ((text : List ℕ) → Appends taken.writing.before taken.writing.after text → Appends output.writing.before output.writing.after text)
      → TakesBeginning (writings_of (files ++ taken ∷ [])) texts → TakesBeginning (writings_of (files ++ output ∷ [])) texts
  begins_still [] texts left moves part = search (rules, All-nil, all_unwritten)
  begins_still (file ∷ files) [] left moves part = part
  begins_still (file ∷ files) (text ∷ texts) left moves (inl (n, took, rest)) = inl (n, took, all_unwritten files left rest)
  begins_still (file ∷ files) (text ∷ texts) left moves (inr (took, rest)) = inr (took, begins_still files texts left moves rest)

  none_still : (files : List SinkRun) → output.writes.after ≡ output.writes.before → NoneFailed (writes_of (files ++ taken ∷ []))
      → NoneFailed (writes_of (files ++ output ∷ []))
  none_still [] same none = same
  none_still (file ∷ files) same none = search (rules, none_still files same)

  unwritten_still : (files : List SinkRun) → IsUnwritten output.writing → AreUnwritten (writings_of (files ++ taken ∷ []))
      → AreUnwritten (writings_of (files ++ output ∷ []))
  unwritten_still [] left none = left
  unwritten_still (file ∷ files) left none = search (rules, unwritten_still files left)

-- how many writes failed differs by those of the last sink
counted : (files : List SinkRun) (line : List ℕ) (output : SinkRun)
    → failed_after (writes_of (files ++ output ∷ [])) + failed_before (writes_of (files ++ line_taken line ∷ [])) + output.writes.before
    ≡ failed_before (writes_of (files ++ output ∷ [])) + failed_after (writes_of (files ++ line_taken line ∷ [])) + output.writes.after
counted [] line output = omega arith
counted (file ∷ files) line output = simp sum_by-cons (omega (arith, counted files line output))

keeps_appends : (before after : Option (List ℕ)) → Keeps before after → Appends before after []
keeps_appends before after keeps = search (rules, append-nil)

-- a run whose device had failed, of which nothing is written
broken_over : (command : Command) (sources : List SourceRun) (files : List SinkRun) (output : SinkRun) (status : ℕ)
    → RunsOver command sources (files ++ line_taken [] ∷ []) 8 → IsWrittenAs IsOutputOf (Err Broken) (output ∷ []) status
    → RunsOver command sources (files ++ output ∷ []) status
broken_over command sources files output status runs written =
    let left = written.unread refl in
    let device : status ≡ DEVICE = left.0 in
    let unwritten : IsUnwritten output.writing = left.1 in
    let same : output.writes.after ≡ output.writes.before = left.2 in
    let calls = counted files [] output in
    record {
      ended = λ done. absurd (done device);
      no_failure = λ done. absurd (done device);
      failure = λ is. let failed = runs.failure refl in omega (arith, same, calls, failed);
      read_failed = λ failed. let read = runs.read_failed failed in (unwritten_still (line_taken []) output files unwritten read.0, read.1);
      write_failed = λ failed.
          let early = runs.write_failed (λ none. failed (omega (arith, same, calls, none))) in
          record {
            output = early.output;
            answer = early.answer;
            written = begins_still (line_taken []) output files early.output.texts unwritten
                (λ text nothing. rw nothing at (keeps_appends output.writing.before output.writing.after unwritten)) early.written;
          };
    }

module _ (command : Command) (sources : List SourceRun) (files : List SinkRun) (answer : Result Answer ReadFault) (output : SinkRun) (status : ℕ)
    (unbroken : answer ≡ Err Broken → ⊥) (written : IsWrittenAs IsOutputOf answer (output ∷ []) status) where
  abbrev taken : SinkRun
  taken = line_taken (line_of (outcome_of answer))

  -- the line was taken whole
  whole_line : status ≢ DEVICE → (status ≡ status_of (outcome_of answer))
      × Appends output.writing.before output.writing.after (line_of (outcome_of answer)) × (output.writes.after ≡ output.writes.before)
  whole_line done =
      let whole = written.whole done in
      let taken : TakesAll (output.writing ∷ []) (line_of (outcome_of answer) ∷ []) = rw whole.1 at whole.3 in
      (whole.2 ∙ ap (λ (o : Output). o.status) whole.1, taken.0, whole.4)

  -- a run whose line was written
  pub ends_over : EndsOver command sources (files ++ line_taken (line_of (outcome_of answer)) ∷ []) (status_of (outcome_of answer)) → status ≢ DEVICE
      → EndsOver command sources (files ++ output ∷ []) status
  ends_over ends done =
      let told = whole_line done in
      record {
        output = ends.output;
        answer = ends.answer;
        status_is = told.0 ∙ ends.status_is;
        written = takes_all taken output files ends.output.texts
            (λ text is. rw is at told.1) ends.written;
      }

  early_over : EndsOver command sources (files ++ line_taken (line_of (outcome_of answer)) ∷ []) (status_of (outcome_of answer))
      → output.writes.after ≢ output.writes.before → EndsEarly command (readings_of sources) (writings_of (files ++ output ∷ []))
  early_over ends failed =
      let part = written.beginning (λ none. failed (omega (arith, none))) in
      let begun = subst (λ (o : Output). TakesBeginning (output.writing ∷ []) o.texts) part.1.1 part.1.2 in
      record {
        output = ends.output;
        answer = ends.answer;
        written = begins taken output files ends.output.texts
            (λ text is. elim begun [
              | inl some ↦ (some.0, rw is at some.1)
              | inr more ↦ absurd more.1
            ]) ends.written;
      }

  unbroken_over : EndsAs command sources files (outcome_of answer) → RunsOver command sources (files ++ output ∷ []) status
  unbroken_over runs =
      let none = runs.no_failure (still answer unbroken) in
      let calls = counted files (line_of (outcome_of answer)) output in
      let files_same = none_failed (writes_of (files ++ taken ∷ [])) none.1 in
      let reads_same = none_failed (reads_of sources) none.0 in
      record {
        ended = ends_over (runs.ended (still answer unbroken));
        no_failure = λ done. (none.0, none_still taken output files (whole_line done).2 none.1);
        failure = λ device. let failed = written.device device unbroken in
            omega (arith, calls, files_same, reads_same, failed);
        read_failed = λ failed. absurd (failed reads_same);
        write_failed = λ failed.
            early_over (runs.ended (still answer unbroken)) (λ same. failed (omega (arith, calls, files_same, same)));
      }

-- a run that has come to an outcome, whose line was then written
pub said_over : (command : Command) (sources : List SourceRun) (files : List SinkRun) (answer : Result Answer ReadFault) (output : SinkRun)
    (status : ℕ)
    → EndsAs command sources files (outcome_of answer) → IsWrittenAs IsOutputOf answer (output ∷ []) status
    → RunsOver command sources (files ++ output ∷ []) status
said_over command sources files (Err Broken) output status runs written = broken_over command sources files output status runs written
said_over command sources files answer output status runs written =
    unbroken_over command sources files answer output status (λ is. cc) written runs
