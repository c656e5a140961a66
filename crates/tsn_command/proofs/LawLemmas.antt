-- A run of `plan` that ends with status 0 or 4 has read its network, and has written what it answers.
use Rattle.std.proofs.Common.{◌≡◌, ◌≢◌, ◌⊎◌, inl, inr, ℕ, List, [], ◌∷◌, ◌++◌, Bool, true, false, IsTrue, Option, None, Some, IfSome, is_some, option_map, Result, slice_get, refl, sym, ap, ◌∙◌, subst, arith}
use Rattle.std.proofs.lemmas.Bool.Decides.{eqb_tells}
use Rattle.std.proofs.lemmas.Option.{same_Some}
use Rattle.std.specs.Io.KnownBytes.{Appends}
use Rattle.tsn_model.specs.Network.{Network}
use Rattle.tsn_cert.specs.declared.plan.Plan.{Plan}
use Rattle.tsn_cert.specs.declared.plan.Plan.TheVariants as plan
use Rattle.tsn_check.specs.declared.verdict.Verdict.{Verdict}
use Rattle.tsn_check.specs.declared.verdict.Verdict.TheVariants.{First, NoSchedule}
use Rattle.tsn_device.specs.declared.device.ReadFault.{ReadFault}
use Rattle.tsn_device.specs.declared.run.TheConstants.{DEVICE}
use Rattle.tsn_words.specs.declared.words.PlanWords.{PlanWords}
use Rattle.tsn_words.specs.declared.words.Words.TheVariants as asks
use Rattle.tsn_answer.specs.declared.effort.Effort.{Effort}
use Rattle.tsn_outcome.specs.declared.answer.Answer.{Answer}
use Rattle.tsn_outcome.specs.declared.outcome.Outcome.{Outcome}
use Rattle.tsn_outcome.specs.Run.{Command, GivesFile, IsOutput, Output, Reading, RunsOver, SinkRun, SourceRun, TakesAll, Writing, failed_in, reading_of, sink_over, source_over, taken_in}
use Rattle.tsn_outcome.specs.Said.{line_of, status_of}
use Rattle.tsn_outcome.specs.Outcome.{EndsAs, line_taken, outcome_of}
use Rattle.tsn_outcome.specs.Runs.{IsSaid, IsTellingOf, IsToldBy, LeavesSource, RunsTold, Says}
use Rattle.tsn_cli.specs.Devices.{CannotBegin, Devices}
use Rattle.tsn_cli.specs.Files.{MadeFiles, OverFiles}
use Rattle.tsn_cli.specs.Laws.{IsText, PlannedIsFirst, WritesAsSaid, WritesProof}
use Rattle.tsn_cli.specs.Plan.{PlanAnswers}
use Rattle.tsn_cli.specs.Unmade.{IsUnmadeOutcome, JudgeAnswers, UnmadeTold}
use Rattle.tsn_command.specs.Asked.{RunsPlan, effort_of}
use Rattle.tsn_command.specs.Laws.{GaveNetwork, PlanRunIsFirst, TookCert, TookPlan}

-- it tells of a plan, or that there is none
abbrev IsDone : ℕ → Type 0
IsDone status = (status ≡ 0) ⊎ (status ≡ 4)

-- so does each status that is the same
done_as : (status other : ℕ) → IsDone status → status ≡ other → (other ≡ 0) ⊎ (other ≡ 4)
done_as status other done same = subst IsDone same done

not_three : IsDone 3 → ⊥
not_three (inl is) = absurd (omega (arith, is))
not_three (inr is) = absurd (omega (arith, is))

not_seven : IsDone 7 → ⊥
not_seven (inl is) = absurd (omega (arith, is))
not_seven (inr is) = absurd (omega (arith, is))

not_eight : IsDone 8 → ⊥
not_eight (inl is) = absurd (omega (arith, is))
not_eight (inr is) = absurd (omega (arith, is))

-- ---- what was told of an outcome has its status

module _ (outcome : Outcome) (output : SinkRun) (status : ℕ) (done : IsDone status) where
  by_said : (said : ℕ) (text : List ℕ) → status ≡ said → IsSaid outcome said text → status_of outcome ≡ status
  by_said said text is (inl plain) = sym (is ∙ plain.1)
  by_said said text is (inr (inl memory)) = absurd (not_seven (done_as status 7 done (is ∙ memory.1)))
  by_said said text is (inr (inr device)) = absurd (not_eight (done_as status 8 done (is ∙ device.1)))

  told_status : IsTellingOf outcome output status → status_of outcome ≡ status
  told_status told = elim (eqb_tells output.writes.after output.writes.before) [
    | inl same ↦ by_said told.said told.text (told.says.whole same.1).0 told.is_said
    | inr other ↦ absurd (not_eight (done_as status 8 done (told.says.beginning other.1).0))
  ]

-- a run with that status, whatever its line went to
record RanOver (command : Command) (sources : List SourceRun) (files : List SinkRun) (status : ℕ) : Type 0 where
  line : SinkRun
  runs : RunsOver command sources (files ++ line ∷ []) status

ran_over : (json : Bool) (command : Command) (sources : List SourceRun) (files : List SinkRun) (output : SinkRun) (status : ℕ) → IsDone status
    → RunsTold json command sources files output status → RanOver command sources files status
ran_over false command sources files output status done runs = record { line = output; runs = runs }
ran_over true command sources files output status done told = record {
  line = line_taken (line_of told.outcome);
  runs = subst (λ s. RunsOver command sources (files ++ line_taken (line_of told.outcome) ∷ []) s)
      (told_status told.outcome output status done told.told) told.ends;
}

-- what it answers it answers to the file that it read
answered : (effort : Effort) (wanted : Bool) (reading : Reading) (output : Output) → IsDone output.status
    → IsOutput (PlanAnswers effort wanted) (reading ∷ []) output → (file : List ℕ) × GivesFile reading file × PlanAnswers effort wanted (file ∷ []) output
answered effort wanted reading output done (inl (inl none)) = absurd none.0
answered effort wanted reading output done (inl (inr (inl long))) = absurd (not_three (done_as output.status 3 done long.3.0))
answered effort wanted reading output done (inl (inr (inr gave))) = (gave.0, gave.1, gave.2)
answered effort wanted reading output done (inr memory) = absurd (not_seven (done_as output.status 7 done memory.0))

-- ---- the texts that the files took

module _ (one two line : Writing) where
  first_took : (texts : List (List ℕ)) (text : List ℕ) → TakesAll (one ∷ two ∷ line ∷ []) texts → slice_get texts 0 ≡ Some text
      → Appends one.before one.after text
  first_took [] text all is = absurd all
  first_took (first ∷ texts) text all is = subst (λ t. Appends one.before one.after t) (same_Some _ _ is) all.0

  second_took : (texts : List (List ℕ)) (text : List ℕ) → TakesAll (one ∷ two ∷ line ∷ []) texts → slice_get texts 1 ≡ Some text
      → Appends two.before two.after text
  second_took [] text all is = absurd all
  second_took (first ∷ []) text all is = absurd all.1
  second_took (first ∷ second ∷ texts) text all is = subst (λ t. Appends two.before two.after t) (same_Some _ _ is) all.1.0

-- what is written so is written otherwise, too
module _ {IsPlan IsOther IsCert IsOtherCert : List ℕ → Type 0} (plan_along : (text : List ℕ) → IsPlan text → IsOther text) where
  proof_along : (wanted : Bool) → (wanted ≡ true → (text : List ℕ) → IsCert text → IsOtherCert text) → (network : Network) (stated : Plan) (verdict : Verdict)
      → WritesProof wanted IsCert network stated verdict → WritesProof wanted IsOtherCert network stated verdict
  proof_along false cert_along network stated verdict proof = tt
  proof_along true cert_along network stated verdict proof = (proof.0, proof.1, proof.2, cert_along refl _ proof.3)

  said_along : (status : ℕ) (wanted : Bool) (file : List ℕ) → (wanted ≡ true → (text : List ℕ) → IsCert text → IsOtherCert text)
      → WritesAsSaid status wanted file IsPlan IsCert → WritesAsSaid status wanted file IsOther IsOtherCert
  said_along status wanted file cert_along said = (
    λ zero. let it = said.0 zero in
        (it.0, (it.1.0, (it.1.1.0, it.1.1.1, plan_along _ it.1.1.2), proof_along wanted cert_along it.0.network it.1.0 First it.1.2)),
    λ four. let it = said.1 four in
        (it.0, (it.1.0, it.1.1, plan_along _ it.1.2), proof_along wanted cert_along it.0.network plan.None NoSchedule it.2),
  )

-- ---- a run in which no file could be made has another status

-- what is said of a network alone isn't that it has no schedule
judged_otherwise : (reading : Reading) (output : Output) → IsOutput JudgeAnswers (reading ∷ []) output → output.status ≡ 4 → ⊥
judged_otherwise reading output (inl (inl none)) four = absurd none.0
judged_otherwise reading output (inl (inr (inl long))) four = absurd (omega (arith, long.3.0, four))
judged_otherwise reading output (inl (inr (inr (file, gave, inl refused)))) four = absurd (omega (arith, refused.2.0, four))
judged_otherwise reading output (inl (inr (inr (file, gave, inr (problem, states, taken))))) four = absurd (omega (arith, taken.0, four))
judged_otherwise reading output (inr memory) four = absurd (omega (arith, memory.0, four))

module _ (output : SinkRun) (status : ℕ) (done : IsDone status) where
  no_device : status ≢ DEVICE
  no_device is = absurd (not_eight (done_as status 8 done is))

  no_memory : (text : List ℕ) → Says 7 text output status → ⊥
  no_memory text says = elim (eqb_tells output.writes.after output.writes.before) [
    | inl same ↦ absurd (not_seven (done_as status 7 done (says.whole same.1).0))
    | inr other ↦ absurd (no_device (says.beginning other.1).0)
  ]

  told_by : (json : Bool) (answer : Result Answer ReadFault) → IsToldBy json answer output status → status_of (outcome_of answer) ≡ status
  told_by false answer written = let whole = written.whole no_device in sym (whole.2 ∙ ap (λ (o : Output). o.status) whole.1)
  told_by true answer telling = told_status (outcome_of answer) output status done telling

  -- the judged network has that status
  judged_so : (source : SourceRun) (judged : Outcome) → EndsAs JudgeAnswers (source ∷ []) [] judged → status_of judged ≡ status → status_of judged ≢ 0 → ⊥
  judged_so source judged ends same some = elim done [
    | inl zero ↦ absurd (some (same ∙ zero))
    | inr four ↦ let whole = ends.ended (λ device. no_device (sym same ∙ device)) in
        absurd (judged_otherwise source.reading whole.output whole.answer (sym whole.status_is ∙ same ∙ four))
  ]

  unmade : (json : Bool) (source : SourceRun) → UnmadeTold json (source ∷ []) output status → ⊥
  unmade json source told = elim told.unmade [
    | inl broken ↦ absurd (no_device (sym (told_by json told.answer told.told) ∙ ap status_of broken.1))
    | inr kept ↦ absurd (judged_so source told.judged told.ends (ap status_of (sym kept.1) ∙ told_by json told.answer told.told) kept.0)
  ]

cert_made : {F : Type 0} (Makes : F → Type 0) (cert : Option F) → IfSome cert Makes → is_some cert ≡ true → (file : F) × (cert ≡ Some file) × Makes file
cert_made Makes None holds some = absurd (cc)
cert_made Makes (Some file) holds some = (file, refl, holds)

module _ (law : PlannedIsFirst) {S F : Type 0} (devices : Devices S F) (words : PlanWords) (output : SinkRun) (status : ℕ) (done : IsDone status) where
  abbrev wanted : Bool
  wanted = is_some words.cert

  abbrev cert_path : Option (List ℕ)
  cert_path = option_map (λ path. path.now) words.cert

  abbrev made_plan : F → Type 0
  made_plan = devices.makes_plan (option_map (λ path. path.now) words.plan)

  abbrev made_cert : Option F → Type 0
  made_cert cert = IfSome cert (devices.makes_cert cert_path) × (is_some cert ≡ wanted)

  abbrev IsSo : Type 0
  IsSo = (file : List ℕ) × GaveNetwork devices words file × WritesAsSaid status wanted file (TookPlan devices words) (TookCert devices words)

  module _ (source left : S) (opened : devices.opens_network words.network.now source) (unread : devices.failed source ≡ 0) (plan plan_left : F)
      (cert cert_left : Option F) (made : made_plan plan × made_cert cert)
      (unwritten : (devices.spoilt plan ≡ 0) × (failed_in devices.spoilt cert ≡ 0)) where
    abbrev sources : List SourceRun
    sources = source_over devices.given devices.failed devices.is_at_end source left ∷ []

    abbrev files : List SinkRun
    files = sink_over devices.taken devices.spoilt plan plan_left ∷ sink_over (taken_in devices.taken) (failed_in devices.spoilt) cert cert_left ∷ []

    over : RanOver (PlanAnswers (effort_of words) wanted) sources files status → IsSo
    over ran =
        let ends = ran.runs.ended (no_device output status done) in
        let none = ran.runs.no_failure (no_device output status done) in
        let gave = answered (effort_of words) wanted _ ends.output (done_as status ends.output.status done ends.status_is) ends.answer in
        let said = law (effort_of words) wanted gave.0 ends.output gave.2 in
        let plan_along : (text : List ℕ) → IsText ends.output 0 text → TookPlan devices words text =
        λ text is. record {
          sink = plan;
          left = plan_left;
          made = made.0;
          unfailing = none.1.0 ∙ unwritten.0;
          took = first_took _ _ ran.line.writing ends.output.texts text ends.written is;
        } in
        let cert_along : wanted ≡ true → (text : List ℕ) → IsText ends.output 1 text → TookCert devices words text =
        λ asked text is. record {
          sink = cert;
          left = cert_left;
          made = cert_made (devices.makes_cert cert_path) cert made.1.0 (made.1.1 ∙ asked);
          unfailing = none.1.1.0 ∙ unwritten.1;
          took = second_took _ _ ran.line.writing ends.output.texts text ends.written is;
        } in (
          gave.0,
          record { source = source; left = left; opened = opened; unfailing = none.0 ∙ unread; gave = gave.1 },
          said_along plan_along status wanted gave.0 cert_along
              (subst (λ s. WritesAsSaid s wanted gave.0 (IsText ends.output 0) (IsText ends.output 1)) (sym ends.status_is) said),
        )

  ran : RunsPlan devices words output status → IsSo
  ran (inl (left, run)) =
      let made = run.ran in
      over run.source left run.opened run.unfailing made.first made.over.first_left made.second made.over.second_left made.made made.unfailing
      (ran_over words.json (PlanAnswers (effort_of words) wanted) _ _ output status done made.over.ran)
  ran (inr (refuses, inl memory)) = absurd (no_memory output status done _ memory)
  ran (inr (refuses, inr (left, run))) = absurd (unmade output status done words.json _ run.ran)

pub ran_first : PlannedIsFirst → {S F : Type 0} (devices : Devices S F) → PlanRunIsFirst devices
ran_first law devices (asks.Plan asked) output status runs = λ done. ran law devices asked output status done runs
ran_first law devices (asks.Valid asked) output status runs = tt
ran_first law devices (asks.Check asked) output status runs = tt
ran_first law devices (asks.Prove asked) output status runs = tt
ran_first law devices (asks.Explain asked) output status runs = tt
ran_first law devices (asks.Gates asked) output status runs = tt
ran_first law devices (asks.Replay asked) output status runs = tt
ran_first law devices (asks.Chart asked) output status runs = tt
ran_first law devices (asks.Streams asked) output status runs = tt
