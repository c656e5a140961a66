-- How the answers of a run's stages make its answer.
use Rattle.std.proofs.Common.{◌≡◌, ◌≢◌, ◌⊎◌, ◌+◌, inl, inr, ℕ, List, [], ◌∷◌, codes, take, Option, Some, None, Result, Ok, Err, refl, sym, ap, subst, IfSome, append-nil, arith, rules}
use Rattle.std.proofs.lemmas.List.Sums.{sum_by-cons}
use Rattle.std.specs.Io.KnownBytes.{Appends, Keeps}
use Rattle.tsn_device.specs.declared.device.ReadFault.{ReadFault}
use Rattle.tsn_device.specs.declared.device.ReadFault.TheVariants.{Broken, TooLong, Memory}
use Rattle.tsn_device.specs.declared.run.TheConstants.{DEVICE}
use Rattle.tsn_outcome.specs.Run.{AreUnwritten, BreaksOff, Command, Failures, IsLine, NoneFailed, Output, Reading, IsOutput, RunsOver, SinkRun, SourceRun, failed_after, failed_before, readings_of, reads_of, writes_of, writings_of}
use Rattle.tsn_outcome.specs.Outcome.{ComesOver, ComesTo, IsWrittenAs, TellsFailures}

pub Keeps-same : (o : Option (List ℕ)) → Keeps o o
Keeps-same o = search rules

-- how the output of an outcome tells a fault of a source
pub record TellsFaults {A : Type 0} (output : Result A ReadFault → Output) : Type 0 where
  pub too_long : IsLine 3 (codes "too long\n") (output (Err TooLong))
  pub memory : IsLine 7 (codes "no memory\n") (output (Err Memory))

-- the bytes that were written are those of the text
pub text_whole : (before after : Option (List ℕ)) (bytes text : List ℕ) → bytes ≡ text → Appends before after bytes → Appends before after text
text_whole before after bytes text same taken = rw same at taken

pub text_beginning : (before after : Option (List ℕ)) (bytes text : List ℕ) → bytes ≡ text → (n : ℕ) × Appends before after (take n bytes) → (n : ℕ) × Appends before after (take n text)
text_beginning before after bytes text same taken = rw same at taken

pub never_both : {A : Type 0} {value : A} {fault : ReadFault} → Ok value ≡ Err fault → ⊥
never_both is = cc

-- how many reads failed doesn't hang on what was read
pub tells_ok : {A B : Type 0} (reads : List Failures) (first : A) (then : B) → TellsFailures reads (Ok first) → TellsFailures reads (Ok then)
tells_ok reads first then tells = record { broken = λ is. absurd (never_both is); kept = λ unbroken. tells.kept never_both }

-- a fault is told by its line
pub told_fault : {A : Type 0} (output : Result A ReadFault → Output) (outcome : Result A ReadFault) (fault : ReadFault) → outcome ≡ Err fault
    → output (Err fault) ≡ output outcome
told_fault output outcome fault is = ap output (sym is)

-- none failed, so as many have failed as had before
pub none_failed : (devices : List Failures) → NoneFailed devices → failed_after devices ≡ failed_before devices
none_failed [] none = refl
none_failed (calls ∷ []) none = omega (arith, none)
none_failed (calls ∷ next ∷ devices) none =
    let rest : failed_after (next ∷ devices) ≡ failed_before (next ∷ devices) = none_failed (next ∷ devices) none.1 in
    let after = sum_by-cons (λ (c : Failures). c.after) calls (next ∷ devices) in
    let before = sum_by-cons (λ (c : Failures). c.before) calls (next ∷ devices) in
    omega (arith, after, before, none.0, rest)

pub broken_or_not : {A : Type 0} (outcome : Result A ReadFault) → (outcome ≡ Err Broken) ⊎ (outcome ≡ Err Broken → ⊥)
broken_or_not outcome = search rules

module _ {A : Type 0} (Prints : Result A ReadFault → Output → Type 0) (command : Command) (sources : List SourceRun) (sinks : List SinkRun)
    (outcome : Result A ReadFault) (status : ℕ) (tells : TellsFailures (reads_of sources) outcome) (written : IsWrittenAs Prints outcome sinks status) where
  one_failed : (outcome ≡ Err Broken) ⊎ (outcome ≡ Err Broken → ⊥) → status ≡ DEVICE
      → failed_after (reads_of sources) + failed_after (writes_of sinks) ≡ failed_before (reads_of sources) + failed_before (writes_of sinks) + 1
  one_failed (inl broken) device = omega (arith, tells.broken broken, none_failed (writes_of sinks) (written.unread broken).2)
  one_failed (inr unbroken) device = omega (arith, written.device device unbroken, none_failed (reads_of sources) (tells.kept unbroken))

  read_failed : (outcome ≡ Err Broken → BreaksOff command [] (readings_of sources)) → (outcome ≡ Err Broken) ⊎ (outcome ≡ Err Broken → ⊥)
      → failed_after (reads_of sources) ≢ failed_before (reads_of sources) → AreUnwritten (writings_of sinks) × BreaksOff command [] (readings_of sources)
  read_failed breaks (inl broken) failed = ((written.unread broken).1, breaks broken)
  read_failed breaks (inr unbroken) failed = absurd (failed (none_failed (reads_of sources) (tells.kept unbroken)))

  -- how a run ends of which the output was written
  pub runs_over : ((outcome ≡ Err Broken → ⊥) → (output : Output) → Prints outcome output → IsOutput command (readings_of sources) output)
      → (outcome ≡ Err Broken → BreaksOff command [] (readings_of sources)) → RunsOver command sources sinks status
  runs_over answered breaks =
      let unbroken : status ≢ DEVICE → outcome ≡ Err Broken → ⊥ = λ done broken. done (written.unread broken).0 in
      record {
        ended = λ done. let whole = written.whole done in
            record { output = whole.0; answer = answered (unbroken done) whole.0 whole.1; status_is = whole.2; written = whole.3 };
        no_failure = λ done. (tells.kept (unbroken done), (written.whole done).4);
        failure = one_failed (broken_or_not outcome);
        read_failed = read_failed breaks (broken_or_not outcome);
        write_failed = λ failed. let part = written.beginning failed in
            record { output = part.1.0; answer = answered part.0 part.1.0 part.1.1; written = part.1.2 };
      }

-- what a run comes to in which no read failed, and in which one did
pub IsOutput-comes : {A : Type 0} (output : Result A ReadFault → Output) (command : Command) (readings : List Reading) (outcome : Result A ReadFault)
    → ComesTo output command [] readings outcome → (outcome ≡ Err Broken → ⊥) → IsOutput command readings (output outcome)
IsOutput-comes output command readings outcome comes not_broken = search rules

-- how a run ends of which the one output was written
pub runs_with : {A : Type 0} (output : Result A ReadFault → Output) (command : Command) (sources : List SourceRun) (sinks : List SinkRun)
    (outcome : Result A ReadFault) (status : ℕ) → ComesOver output command sources outcome
    → IsWrittenAs (λ o shown. shown ≡ output o) outcome sinks status → RunsOver command sources sinks status
runs_with output command sources sinks outcome status over written =
    runs_over (λ o shown. shown ≡ output o) command sources sinks outcome status over.failures written
    (λ unbroken shown is. subst (λ (s : Output). IsOutput command (readings_of sources) s) (sym is)
    (IsOutput-comes output command (readings_of sources) outcome over.comes unbroken))
    (λ broken. subst (λ (o : Result _ ReadFault). ComesTo output command [] (readings_of sources) o) broken over.comes)

-- nothing was taken
pub Appends-nothing : (a : Option (List ℕ)) → Appends a a []
Appends-nothing a = search (rules, append-nil)

pub some_of : {X : Type 0} (found : Option X) (P : X → Type 0) → ((x : X) → found ≡ Some x → P x) → IfSome found P
some_of found P all = search rules
