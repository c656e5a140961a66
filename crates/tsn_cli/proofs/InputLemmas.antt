-- What a run comes to, by what it made of the file of its next source.
use Rattle.std.proofs.Common.{◌≡◌, ◌+◌, inl, inr, ℕ, List, [], ◌∷◌, ◌++◌, Result, Ok, Err, All, refl, arith, rules}
use Rattle.std.proofs.lemmas.List.Elements.{All-cons, All-head, All-nil, All-tail}
use Rattle.std.proofs.lemmas.List.Sums.{sum_by-cons}
use Rattle.tsn_device.specs.declared.device.ReadFault.{ReadFault}
use Rattle.tsn_device.specs.declared.device.ReadFault.TheVariants.{Broken, TooLong, Memory}
use Rattle.tsn_outcome.specs.Run.{Answers, Command, Failures, GivesFile, GoesOn, IsUnread, NoneFailed, Output, SourceRun, failed_after, failed_before, readings_of, reads_of}
use Rattle.tsn_outcome.specs.Outcome.{ComesFrom, ComesTo, output_of}
use Rattle.tsn_outcome.specs.declared.answer.Answer.{Answer}
use Rattle.tsn_cli.specs.Refusal.{RefusesNetwork, RefusesPlan}
use Rattle.tsn_outcome.specs.Said.{status_of}
use Rattle.tsn_net.specs.File.{States}
use Rattle.tsn_timing.specs.Problem.{NamedNetwork}
use Rattle.tsn_cert.specs.declared.plan.Plan.{Plan}
use Rattle.tsn_cli.specs.declared.inputs.NetworkRead.TheVariants as of_network
use Rattle.tsn_cli.specs.declared.inputs.PlanRead.TheVariants as of_plan
use Rattle.tsn_cli.specs.declared.inputs.BothRead.TheVariants as of_both
use Rattle.tsn_cli.specs.Inputs.{AreRead, IsReadOver, TakesNetwork, TakesPlan}
use Rattle.tsn_outcome.proofs.RunLemmas.{TellsFaults, none_failed}

-- sources that were left alone
pub record AreLeft (sources : List SourceRun) : Type 0 where
  pub unread : All IsUnread (readings_of sources)
  pub unfailing : NoneFailed (reads_of sources)

also_kept : (calls : Failures) (devices : List Failures) → calls.after ≡ calls.before → NoneFailed devices → NoneFailed (calls ∷ devices)
also_kept calls devices same none = search rules

pub none_left : AreLeft []
none_left = record { unread = All-nil IsUnread; unfailing = tt }

pub also_left : (source : SourceRun) (sources : List SourceRun) → IsUnread source.reading → source.reads.after ≡ source.reads.before → AreLeft sources
    → AreLeft (source ∷ sources)
also_left source sources unread same left = record {
  unread = All-cons IsUnread source.reading (readings_of sources) unread left.unread;
  unfailing = also_kept source.reads (reads_of sources) same left.unfailing;
}

module _ (calls : Failures) (devices : List Failures) where
  failed_first : calls.after ≡ calls.before + 1 → NoneFailed devices → failed_after (calls ∷ devices) ≡ failed_before (calls ∷ devices) + 1
  failed_first failed none = simp sum_by-cons (omega (arith, failed, none_failed devices none))

  failed_next : calls.after ≡ calls.before → failed_after devices ≡ failed_before devices + 1
      → failed_after (calls ∷ devices) ≡ failed_before (calls ∷ devices) + 1
  failed_next same failed = simp sum_by-cons (omega (arith, failed, same))

module _ {M A : Type 0} (output : Result A ReadFault → Output) (command : Command) (files : List (List ℕ)) (Makes : List ℕ → M → Type 0) (source : SourceRun)
    (rest : List SourceRun) where
  -- the next source wasn't read whole
  pub unread : TellsFaults output → GoesOn command files → AreLeft rest → (fault : ReadFault) → IsReadOver Makes source (Err fault)
      → ComesFrom output command files (source ∷ rest) (Err fault)
  unread tells goes_on left TooLong over = record {
    comes = inl (inr (inl (goes_on, over.reads, left.unread, tells.too_long)));
    failures = record { broken = λ is. cc; kept = λ unbroken. also_kept source.reads (reads_of rest) (over.failures.kept (λ is. cc)) left.unfailing };
  }
  unread tells goes_on left Memory over = record {
    comes = inr tells.memory;
    failures = record { broken = λ is. cc; kept = λ unbroken. also_kept source.reads (reads_of rest) (over.failures.kept (λ is. cc)) left.unfailing };
  }
  unread tells goes_on left Broken over = record {
    comes = inl (goes_on, left.unread);
    failures = record {
      broken = λ is. let failed : 0 + source.reads.after ≡ 0 + source.reads.before + 1 = over.failures.broken refl in
          failed_first source.reads (reads_of rest) (omega (arith, failed)) left.unfailing;
      kept = λ unbroken. absurd (unbroken refl);
    };
  }

  next : (outcome : Result A ReadFault) (file : List ℕ) → GivesFile source.reading file → ComesTo output command (files ++ file ∷ []) (readings_of rest) outcome
      → ComesTo output command files (source.reading ∷ readings_of rest) outcome
  next outcome file gives then = search rules

  -- it was, and the run went on
  pub went_on : (made : M) (outcome : Result A ReadFault) (over : IsReadOver Makes source (Ok made))
      → ComesFrom output command (files ++ over.reads.0 ∷ []) rest outcome → ComesFrom output command files (source ∷ rest) outcome
  went_on made outcome over then = record {
    comes = next outcome over.reads.0 over.reads.1 then.comes;
    failures = record {
      broken = λ is. failed_next source.reads (reads_of rest) (over.failures.kept (λ is. cc)) (then.failures.broken is);
      kept = λ unbroken. also_kept source.reads (reads_of rest) (over.failures.kept (λ is. cc)) (then.failures.kept unbroken);
    };
  }

answers : (command : Command) (files : List (List ℕ)) (sources : List SourceRun) (output : Output) → AreLeft sources → command files output
    → Answers command files (readings_of sources) output
answers command files [] output left answer = answer
answers command files (source ∷ sources) output left answer =
    inl (answer, All-head IsUnread source.reading (readings_of sources) left.unread, All-tail IsUnread source.reading (readings_of sources) left.unread)

-- its file was answered, and the other sources were left
pub answered : {M A : Type 0} (output : Result A ReadFault → Output) (command : Command) (files : List (List ℕ)) (Makes : List ℕ → M → Type 0)
    (source : SourceRun) (rest : List SourceRun) → AreLeft rest → (made : M) (shown : A) (over : IsReadOver Makes source (Ok made))
    → command (files ++ over.reads.0 ∷ []) (output (Ok shown)) → ComesFrom output command files (source ∷ rest) (Ok shown)
answered output command files Makes source rest left made shown over answer = record {
  comes = inl (inr (inr (over.reads.0, over.reads.1, answers command (files ++ over.reads.0 ∷ []) rest (output (Ok shown)) left answer)));
  failures = record { broken = λ is. cc; kept = λ unbroken. also_kept source.reads (reads_of rest) (over.failures.kept (λ is. cc)) left.unfailing };
}

-- what was made of the file of the last source is what the run comes to
pub ended : {A : Type 0} (output : Result A ReadFault → Output) (command : Command) (files : List (List ℕ)) (Makes : List ℕ → A → Type 0) (source : SourceRun)
    → TellsFaults output → GoesOn command files
    → ((file : List ℕ) (shown : A) → Makes file shown → command (files ++ file ∷ []) (output (Ok shown)))
    → (outcome : Result A ReadFault) → IsReadOver Makes source outcome → ComesFrom output command files (source ∷ []) outcome
ended output command files Makes source tells goes_on answer (Ok shown) over =
    answered output command files Makes source [] none_left shown shown over (answer over.reads.0 shown over.reads.2)
ended output command files Makes source tells goes_on answer (Err fault) over = unread output command files Makes source [] tells goes_on none_left fault over

-- what was made of the files of a network and of a plan is what the run comes to, or goes on from
module _ {A : Type 0} (output : Result A ReadFault → Output) (command : Command) (network plan : SourceRun) (rest : List SourceRun) (left : AreLeft rest) where
  pub both_refused : (answer : Answer) (shown : A) → ((file : List ℕ) → RefusesNetwork file (output_of (Ok answer)) → command (file ∷ []) (output (Ok shown)))
      → ((file other : List ℕ) (problem : NamedNetwork) → States file problem → RefusesPlan other (output_of (Ok answer))
      → command (file ∷ other ∷ []) (output (Ok shown)))
      → AreRead network plan (Ok (of_both.Refused answer)) → ComesFrom output command [] (network ∷ plan ∷ rest) (Ok shown)
  both_refused answer shown first second (inl (over, alone)) =
      answered output command [] TakesNetwork network (plan ∷ rest) (also_left plan rest alone.0 alone.1 left) (of_network.Refused answer) shown over
      (first over.reads.0 over.reads.2)
  both_refused answer shown first second (inr (problem, taken, over)) =
      went_on output command [] TakesNetwork network (plan ∷ rest) (of_network.Taken problem) (Ok shown) taken
      (answered output command (taken.reads.0 ∷ []) TakesPlan plan rest left (of_plan.Refused answer) shown over
      (second taken.reads.0 over.reads.0 problem taken.reads.2 over.reads.2))

  pub both_unread : TellsFaults output → GoesOn command [] → ((file : List ℕ) (problem : NamedNetwork) → States file problem → GoesOn command (file ∷ []))
      → (fault : ReadFault) → AreRead network plan (Err fault) → ComesFrom output command [] (network ∷ plan ∷ rest) (Err fault)
  both_unread tells first second fault (inl (over, alone)) =
      unread output command [] TakesNetwork network (plan ∷ rest) tells first (also_left plan rest alone.0 alone.1 left) fault over
  both_unread tells first second fault (inr (problem, taken, over)) =
      went_on output command [] TakesNetwork network (plan ∷ rest) (of_network.Taken problem) (Err fault) taken
      (unread output command (taken.reads.0 ∷ []) TakesPlan plan rest tells (second taken.reads.0 problem taken.reads.2) left fault over)

  pub both_answered : (problem : NamedNetwork) (stated : Plan) (shown : A) (read : AreRead network plan (Ok (of_both.Taken problem stated)))
      → command (read.0.reads.0 ∷ read.1.reads.0 ∷ []) (output (Ok shown)) → ComesFrom output command [] (network ∷ plan ∷ rest) (Ok shown)
  both_answered problem stated shown read answer =
      went_on output command [] TakesNetwork network (plan ∷ rest) (of_network.Taken problem) (Ok shown) read.0
      (answered output command (read.0.reads.0 ∷ []) TakesPlan plan rest left (of_plan.Taken stated) shown read.1 answer)

-- they were taken, and the run went on
pub both_taken : {A : Type 0} (output : Result A ReadFault → Output) (command : Command) (network plan : SourceRun) (rest : List SourceRun)
    (problem : NamedNetwork) (stated : Plan) (outcome : Result A ReadFault) (read : AreRead network plan (Ok (of_both.Taken problem stated)))
    → ComesFrom output command (read.0.reads.0 ∷ read.1.reads.0 ∷ []) rest outcome → ComesFrom output command [] (network ∷ plan ∷ rest) outcome
both_taken output command network plan rest problem stated outcome read then =
    went_on output command [] TakesNetwork network (plan ∷ rest) (of_network.Taken problem) outcome read.0
    (went_on output command (read.0.reads.0 ∷ []) TakesPlan plan rest (of_plan.Taken stated) outcome read.1 then)

-- the file of one of them was refused
pub refused_both : (network plan : SourceRun) (answer : Answer) → AreRead network plan (Ok (of_both.Refused answer)) → status_of answer.outcome ≡ 3
refused_both network plan answer (inl (over, alone)) = over.reads.2.2.0
refused_both network plan answer (inr (problem, taken, over)) = over.reads.2.2.0
