-- The laws: what `plan` has written by its status, one network file has one plan file, and what `plan` and `prove` write is accepted by `check`.
use Rattle.std.proofs.Common.{◌≡◌, ◌⊎◌, ◌≤◌, inl, inr, ℕ, List, [], ◌∷◌, true, false, Option, None, Some, is_some, Ok, sym, ap, ◌∙◌, subst, arith, Bool, slice_get}
use Rattle.std.proofs.lemmas.Option.{same_Some}
use Rattle.tsn_model.specs.Network.{Network, IsWellFormed}
use Rattle.tsn_model.specs.Schedule.{HasNoSchedule}
use Rattle.tsn_net.specs.File.{States}
use Rattle.tsn_timing.specs.Problem.{NamedNetwork}
use Rattle.tsn_cli.proofs.HeldFormed.{stated_formed}
use Rattle.tsn_cert.specs.Cert.{max_number, are_of}
use Rattle.tsn_cert.specs.Plan.{plan_in, plan_text}
use Rattle.tsn_cert.specs.Laws.{PlanTextIsRead}
use Rattle.tsn_cert.specs.declared.cert.Format.{Format}
use Rattle.tsn_cert.specs.declared.cert.Format.TheVariants.{Two}
use Rattle.tsn_cert.specs.declared.plan.Plan.{Plan}
use Rattle.tsn_cert.specs.declared.plan.Plan.TheVariants as plan
use Rattle.tsn_check.specs.Plans.{IsPlanRight, IsFirstPlan}
use Rattle.tsn_check.specs.Certified.{verdict_of}
use Rattle.tsn_check.specs.Limits.{RightPlansFit, CertifiedTreesFit}
use Rattle.tsn_cert.specs.declared.certificate.Certificate.{Certificate}
use Rattle.tsn_cert.specs.declared.certificate.Certificate.TheVariants.{Tree, Argument}
use Rattle.tsn_cert.specs.Certificate.{certificate_in, certificate_text}
use Rattle.tsn_cert.specs.ArgumentLaws.{CertificateTextIsRead}
use Rattle.tsn_argue.specs.Certified.{Certifies, certificate_verdict, argument_verdict, goal_for}
use Rattle.tsn_argue.specs.Laws.{FirstFaultsRefute}
use Rattle.tsn_answer.specs.declared.effort.Effort.{Effort}
use Rattle.tsn_answer.specs.Answer.{Shows, whole_verdict, IsReadAgain, IsWhole}
use Rattle.tsn_outcome.specs.Run.{Output}
use Rattle.tsn_outcome.specs.Outcome.{IsOutcome}
use Rattle.tsn_cli.specs.Check.{CheckAnswers, accepted}
use Rattle.tsn_cli.specs.Plan.{ShowsIfAny, TellsMany, TellsPlan, TellsStop, finished_output}
use Rattle.tsn_cli.specs.RunOutput.{HasForm}
use Rattle.tsn_cli.specs.Laws.{IsText, PlanFilesAreOne, PlannedIsAccepted, PlannedIsFirst, ProvedIsAccepted, WritesProof, proved_verdict}
use Rattle.tsn_cli.proofs.Accepting.{certificate_accepted}
use Rattle.tsn_model.specs.Argument as model
use Rattle.tsn_check.specs.declared.verdict.Verdict.TheVariants.{First, NoSchedule}
use Rattle.tsn_cert.specs.declared.argument.Goal.{Goal}
use Rattle.tsn_cert.specs.Argument.{argument_text}
use Rattle.tsn_cert.specs.declared.certificate.Certificate.TheVariants as certificate
use Rattle.tsn_answer.specs.declared.proof.Proof.{Proof}
use Rattle.tsn_answer.specs.declared.proof.Proof.TheVariants.{Proved}
use Rattle.tsn_answer.specs.Proof.{IsProof}
use Rattle.tsn_cli.specs.Prove.{output_of}
use Rattle.tsn_net.proofs.Stating.{stated_once}
use Rattle.tsn_outcome.specs.declared.stop.Stop.{Stop}
use Rattle.tsn_answer.proofs.Agreeing.{first_plan_once}

-- what a whole certificate shows
verdict_two : (format : Format) (stated : Plan) → format ≡ Two → verdict_of format stated ≡ whole_verdict stated
verdict_two format stated is = grind arith

verdict_by : (stated : Plan) (whole : Certificate) → IsWhole stated whole → certificate_verdict whole stated ≡ whole_verdict stated
verdict_by stated (Tree cert) is = verdict_two cert.format stated is
verdict_by stated (Argument argument) is = is

-- the certificate that is wanted is written, and shows all that the plan says
proof_by : (network : Network) (effort : Effort) (stated : Plan) (cert : Option Certificate) (count : ℕ) (wanted : Bool) (output : Output)
    → is_some cert ≡ wanted → ShowsIfAny network effort stated cert count → output ≡ finished_output stated cert count
    → WritesProof wanted (IsText output 1) network stated (whole_verdict stated)
proof_by network effort stated cert count false output same shows is = tt
proof_by network effort stated None count true output same shows is = absurd (cc)
proof_by network effort stated (Some whole) count true output same shows is =
    (whole, shows.0.certifies, verdict_by stated whole shows.0.whole, ap (λ (o : Output). slice_get o.texts 1) is)

-- an output that tells of a plan, by its status
abbrev TellsFirst : Network → Bool → Output → Type 0
TellsFirst network wanted output =
    (first : Plan) × IsFirstPlan network first × IsText output 0 (plan_text first) × WritesProof wanted (IsText output 1) network first First

abbrev TellsNone : Network → Bool → Output → Type 0
TellsNone network wanted output =
    HasNoSchedule network × IsText output 0 (plan_text plan.None) × WritesProof wanted (IsText output 1) network plan.None NoSchedule

module _ (network : Network) (effort : Effort) (wanted : Bool) (output : Output) where
  told_plan : TellsPlan network effort wanted output → output.status ≡ 0 → TellsFirst network wanted output
  told_plan (plan.Schedule span offsets, (cert, (count, same, found, shows, inl (is, form)))) done = (
    plan.Schedule span offsets,
    found,
    ap (λ (o : Output). slice_get o.texts 0) is,
    proof_by network effort (plan.Schedule span offsets) cert count wanted output same shows is,
  )
  told_plan (plan.None, (cert, (count, same, found, shows, inl (is, form)))) done = absurd (omega (arith, rw is at done))
  told_plan (stated, (None, (count, same, found, shows, inr cut))) done = absurd cut
  told_plan (stated, (Some cert, (count, same, found, shows, inr cut))) done = absurd (omega (arith, rw cut.1 at done))

  told_none : TellsPlan network effort wanted output → output.status ≡ 4 → TellsNone network wanted output
  told_none (plan.None, (cert, (count, same, found, shows, inl (is, form)))) done =
      (found, ap (λ (o : Output). slice_get o.texts 0) is, proof_by network effort plan.None cert count wanted output same shows is)
  told_none (plan.Schedule span offsets, (cert, (count, same, found, shows, inl (is, form)))) done = absurd (omega (arith, rw is at done))
  told_none (stated, (None, (count, same, found, shows, inr cut))) done = absurd cut
  told_none (stated, (Some cert, (count, same, found, shows, inr cut))) done = absurd (omega (arith, rw cut.1 at done))

  told_first : TellsPlan network effort wanted output ⊎ ((stop : Stop) × TellsStop network effort.limit stop output) ⊎ TellsMany network effort output
      → output.status ≡ 0 → TellsFirst network wanted output
  told_first (inl tells) done = told_plan tells done
  told_first (inr (inl (stop, (known, (count, so, of, is))))) done = absurd (omega (arith, rw is at done))
  told_first (inr (inr many)) done = absurd (omega (arith, done, many.outcome.0))

  told_that_none : TellsPlan network effort wanted output ⊎ ((stop : Stop) × TellsStop network effort.limit stop output) ⊎ TellsMany network effort output
      → output.status ≡ 4 → TellsNone network wanted output
  told_that_none (inl tells) done = told_none tells done
  told_that_none (inr (inl (stop, (known, (count, so, of, is))))) done = absurd (omega (arith, rw is at done))
  told_that_none (inr (inr many)) done = absurd (omega (arith, done, many.outcome.0))

pub planned_first : PlannedIsFirst
planned_first effort wanted file output (inl refused) =
    (λ done. absurd (omega (arith, done, refused.2.0)), λ none. absurd (omega (arith, none, refused.2.0)))
planned_first effort wanted file output (inr (problem, states, tells)) = (
  λ done. let told = told_first problem.network effort wanted output tells done in (problem, (told.0, (states, told.1, told.2), told.3)),
  λ none. let told = told_that_none problem.network effort wanted output tells none in (problem, (states, told.0, told.1), told.2),
)

pub plan_files_agree : PlanFilesAreOne
plan_files_agree effort other_effort wanted other_wanted file output other (inl refused) second done other_done = absurd (omega (arith, done, refused.2.0))
plan_files_agree effort other_effort wanted other_wanted file output other first (inl refused) done other_done = absurd (omega (arith, other_done, refused.2.0))
plan_files_agree effort other_effort wanted other_wanted file output other (inr first) (inr second) done other_done =
    let same : second.0 ≡ first.0 = stated_once file second.0 first.0 second.1 first.1 in
    let one : TellsFirst first.0.network wanted output = told_first first.0.network effort wanted output first.2 done in
    let two : TellsFirst first.0.network other_wanted other = rw same at (told_first second.0.network other_effort other_wanted other second.2 other_done) in
    one.2 ∙ ap (λ p. Some (plan_text p)) (first_plan_once first.0.network one.0 two.0 one.1 two.1) ∙ sym two.2

-- ---- what was planned

-- the file states a network within its limits
formed_by : (file : List ℕ) (problem : NamedNetwork) → States file problem → IsWellFormed problem.network
formed_by file problem states = subst (λ (p : NamedNetwork). IsWellFormed p.network) (sym states.3) (stated_formed states.0 states.2)

-- a certificate shows something of a right plan alone
right_by : (network : Network) (stated : Plan) (whole : Certificate) → Certifies network stated whole → IsPlanRight network stated
right_by network stated (Tree cert) certifies = certifies.plan_right
right_by network stated (Argument argument) certifies = certifies.plan_right

module _ (refutes : FirstFaultsRefute) (plans_fit : RightPlansFit) (trees_fit : CertifiedTreesFit) (plan_read : PlanTextIsRead)
    (cert_read : CertificateTextIsRead) (effort : Effort) (network_file plan_file cert_file : List ℕ) (output checked : Output)
    (few : effort.limit ≤ max_number) (answers : CheckAnswers (network_file ∷ plan_file ∷ cert_file ∷ []) checked) (problem : NamedNetwork)
    (states : States network_file problem) where
  abbrev IsTaken : Type 0
  IsTaken = (plan : Plan) × (plan_in plan_file ≡ Ok plan) × IsOutcome (accepted (whole_verdict plan) plan) checked

  formed : IsWellFormed problem.network
  formed = formed_by network_file problem states

  -- the certificate's file says that certificate
  read_by : (stated : Plan) (whole : Certificate) (count : ℕ) → Shows problem.network effort.limit stated whole count → IsReadAgain whole → HasForm whole
      → certificate_in (certificate_text whole) ≡ Ok whole
  read_by stated (Tree cert) count shows again form =
      cert_read (Tree cert) form (ap (λ f. are_of f cert.nodes) shows.whole)
      (trees_fit problem.network stated cert formed shows.certifies form (omega (arith, shows.counted, shows.within, few)))
  read_by stated (Argument argument) count shows again form = again

  -- a plan with a certificate that shows it
  shown : (stated : Plan) (whole : Certificate) (count : ℕ) → Shows problem.network effort.limit stated whole count → IsReadAgain whole → HasForm whole
      → plan_file ≡ plan_text stated → cert_file ≡ certificate_text whole → IsTaken
  shown stated whole count shows again form is_plan is_cert =
      let right = right_by problem.network stated whole shows.certifies in
      let reads : plan_in plan_file ≡ Ok stated = ap plan_in is_plan ∙ plan_read stated (plans_fit problem.network stated formed right) in
      let cert : certificate_in cert_file ≡ Ok whole = ap certificate_in is_cert ∙ read_by stated whole count shows again form in
      let line = certificate_accepted refutes network_file plan_file cert_file problem stated whole checked states reads shows.certifies cert answers in
      (stated, reads, rw (verdict_by stated whole shows.whole) at line)

  -- what tells of a plan
  told : TellsPlan problem.network effort true output → (output.status ≡ 0) ⊎ (output.status ≡ 4) → slice_get output.texts 0 ≡ Some plan_file
      → slice_get output.texts 1 ≡ Some cert_file → IsTaken
  told (stated, (None, (count, some, found, shows, tells))) done is_plan is_cert = absurd (cc)
  told (stated, (Some whole, (count, some, found, shows, inr cut))) done is_plan is_cert = absurd (grind (arith, rw cut.1 at done))
  told (stated, (Some whole, (count, some, found, shows, inl (is, form)))) done is_plan is_cert =
      shown stated whole count shows.0 shows.1 form (same_Some _ _ (sym is_plan ∙ ap (λ (o : Output). slice_get o.texts 0) is))
      (same_Some _ _ (sym is_cert ∙ ap (λ (o : Output). slice_get o.texts 1) is))

pub planned : FirstFaultsRefute → RightPlansFit → CertifiedTreesFit → PlanTextIsRead → CertificateTextIsRead → PlannedIsAccepted
planned refutes plans_fit trees_fit plan_read cert_read effort network_file plan_file cert_file output checked few (inl refused) done is_plan is_cert answers =
    absurd (grind (arith, rw refused.2.0 at done))
planned refutes plans_fit trees_fit plan_read cert_read effort network_file plan_file cert_file output checked few
    (inr (problem, states, inr (inl (stop, (known, (count, so, same, is)))))) done is_plan is_cert answers = absurd (grind (arith, rw is at done))
planned refutes plans_fit trees_fit plan_read cert_read effort network_file plan_file cert_file output checked few
    (inr (problem, states, inr (inr many))) done is_plan is_cert answers = absurd (grind (arith, done, many.outcome.0))
planned refutes plans_fit trees_fit plan_read cert_read effort network_file plan_file cert_file output checked few (inr (problem, states, inl tells)) done is_plan
    is_cert answers =
    told refutes plans_fit trees_fit plan_read cert_read effort network_file plan_file cert_file output checked few answers problem states tells done is_plan is_cert

-- ---- what was proved

-- an argument that isn't for the first plan is for one that is optimal, or for none
verdict_is : (goal : Goal) (stated : Plan) (found : model.Goal) → goal_for goal stated ≡ Some found → (argument_verdict goal ≡ First → ⊥)
    → argument_verdict goal ≡ proved_verdict stated
verdict_is goal stated found fits least = grind arith

module _ (refutes : FirstFaultsRefute) (limit : ℕ) (network_file plan_file cert_file : List ℕ) (output checked : Output) (done : output.status ≡ 0)
    (text : slice_get output.texts 0 ≡ Some cert_file) (answers : CheckAnswers (network_file ∷ plan_file ∷ cert_file ∷ []) checked) where
  -- the status that the output of a proof has
  found_by : (problem : NamedNetwork) (stated : Plan) (proof : Proof) → States network_file problem → plan_in plan_file ≡ Ok stated
      → IsProof problem.network limit stated proof → output ≡ output_of stated proof → IsOutcome (accepted (proved_verdict stated) stated) checked
  found_by problem stated (Proved argument count) states reads proof is =
      let shown = proof.0 in
      let file : cert_file ≡ argument_text argument = same_Some _ _ (sym text ∙ ap (λ (o : Output). slice_get o.texts 0) is) in
      let line =
      certificate_accepted refutes network_file plan_file cert_file problem stated (certificate.Argument argument) checked states reads shown.shows
      (ap certificate_in file ∙ shown.read_again) answers in
      rw (verdict_is argument.goal stated shown.shows.goal shown.shows.fitting.1 shown.least) at line
  found_by problem stated _ states reads proof is = absurd (omega (arith, rw is at done))

pub proved : FirstFaultsRefute → ProvedIsAccepted
proved refutes limit network_file plan_file cert_file output checked (problem, states, inl refused) done text answers = absurd (omega (arith, done, refused.2.0))
proved refutes limit network_file plan_file cert_file output checked (problem, states, inr (stated, reads, inl (right, (proof, is_proof, is)))) done text answers =
    (stated, reads, found_by refutes limit network_file plan_file cert_file output checked done text answers problem stated proof states reads is_proof is)
proved refutes limit network_file plan_file cert_file output checked (problem, states, inr (stated, reads, inr rejects)) done text answers =
    absurd (omega (arith, done, rejects.2.0))
