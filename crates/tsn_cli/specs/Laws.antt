-- The laws of the commands that search, each the contract of a function in `src/laws.rt`.
--     WritesFirst, WritesNone, WritesProof     what `plan` has written where it ends with status 0 or 4
--     WritesAsSaid, PlannedIsFirst             that it is so
--     PlanFilesAreOne                          one network file has one plan file
--     PlannedIsAccepted, ProvedIsAccepted      what `plan` and `prove` write is accepted by `check`
use Rattle.std.specs.Prelude.{◌≡◌, ◌⊎◌, ◌≤◌, ℕ, Bool, List, [], ◌∷◌, true, false, slice_get, Some, Ok}
use Rattle.tsn_model.specs.Network.{Network}
use Rattle.tsn_model.specs.Schedule.{HasNoSchedule}
use Rattle.tsn_timing.specs.Problem.{NamedNetwork}
use Rattle.tsn_net.specs.File.{States}
use Rattle.tsn_cert.specs.Cert.{max_number}
use Rattle.tsn_cert.specs.Plan.{plan_in, plan_text}
use Rattle.tsn_cert.specs.declared.plan.Plan.{Plan}
use Rattle.tsn_cert.specs.declared.plan.Plan.TheVariants as plan
use Rattle.tsn_cert.specs.declared.certificate.Certificate.{Certificate}
use Rattle.tsn_cert.specs.Certificate.{certificate_text}
use Rattle.tsn_check.specs.Plans.{IsFirstPlan}
use Rattle.tsn_check.specs.declared.verdict.Verdict.{Verdict}
use Rattle.tsn_check.specs.declared.verdict.Verdict.TheVariants.{Optimal, First, NoSchedule}
use Rattle.tsn_argue.specs.Certified.{Certifies, certificate_verdict}
use Rattle.tsn_answer.specs.declared.effort.Effort.{Effort}
use Rattle.tsn_answer.specs.Answer.{whole_verdict}
use Rattle.tsn_outcome.specs.Run.{Output}
use Rattle.tsn_outcome.specs.Outcome.{IsOutcome}
use Rattle.tsn_cli.specs.Plan.{PlanAnswers}
use Rattle.tsn_cli.specs.Prove.{ProveAnswers}
use Rattle.tsn_cli.specs.Check.{CheckAnswers, accepted}

-- the text for the sink of this number
abbrev pub IsText : Output → ℕ → List ℕ → Type 0
IsText output number text = slice_get output.texts number ≡ Some text

-- status 0: the file states this network, and this plan, the text of which the plan file has, is its first optimal schedule, with its flowspan
abbrev pub WritesFirst : List ℕ → (List ℕ → Type 0) → NamedNetwork → Plan → Type 0
WritesFirst file IsPlan problem plan = States file problem × IsFirstPlan problem.network plan × IsPlan (plan_text plan)

-- status 4: the file states this network, no list of offsets is valid, and the plan file has the text that says so
abbrev pub WritesNone : List ℕ → (List ℕ → Type 0) → NamedNetwork → Type 0
WritesNone file IsPlan problem = States file problem × HasNoSchedule problem.network × IsPlan (plan_text plan.None)

-- where a certificate is wanted its file has the text of one that shows this of the plan
abbrev pub WritesProof : Bool → (List ℕ → Type 0) → Network → Plan → Verdict → Type 0
WritesProof false IsCert network plan verdict = Unit {0}
WritesProof true IsCert network plan verdict =
    (certificate : Certificate) × Certifies network plan certificate × (certificate_verdict certificate plan ≡ verdict) × IsCert (certificate_text certificate)

-- what is written by a status, where these are the texts of the plan file and of the certificate's
abbrev pub WritesAsSaid : ℕ → Bool → List ℕ → (List ℕ → Type 0) → (List ℕ → Type 0) → Type 0
WritesAsSaid status wanted file IsPlan IsCert =
    (status ≡ 0 → (problem : NamedNetwork) × ((found : Plan) × WritesFirst file IsPlan problem found × WritesProof wanted IsCert problem.network found First))
    × (status ≡ 4 → (problem : NamedNetwork) × WritesNone file IsPlan problem × WritesProof wanted IsCert problem.network plan.None NoSchedule)

-- Whatever is answered to a network file, and however it was searched for: with status 0 the plan that is written is the first optimal schedule of the
-- network that the file states, and with status 4 there is none; the certificate, where one is wanted, shows that.
abbrev pub PlannedIsFirst : Type 0
PlannedIsFirst = (effort : Effort) (wanted : Bool) (file : List ℕ) (output : Output) → PlanAnswers effort wanted (file ∷ []) output
    → WritesAsSaid output.status wanted file (IsText output 0) (IsText output 1)

-- two answers to one network file that both have status 0, however they were searched for and whether a certificate is wanted, have the same plan
-- file: the first text
abbrev pub PlanFilesAreOne : Type 0
PlanFilesAreOne = (effort other_effort : Effort) (wanted other_wanted : Bool) (file : List ℕ) (output other : Output)
    → PlanAnswers effort wanted (file ∷ []) output → PlanAnswers other_effort other_wanted (file ∷ []) other
    → output.status ≡ 0 → other.status ≡ 0 → slice_get output.texts 0 ≡ slice_get other.texts 0

-- where `plan` has found a plan, or that there is none, and has written its certificate, whatever `check` answers to the network file and these two texts is
-- that they are accepted: as the first plan, or as no schedule
abbrev pub PlannedIsAccepted : Type 0
PlannedIsAccepted = (effort : Effort) (network_file plan_file cert_file : List ℕ) (output checked : Output) → effort.limit ≤ max_number
    → PlanAnswers effort true (network_file ∷ []) output → (output.status ≡ 0) ⊎ (output.status ≡ 4)
    → slice_get output.texts 0 ≡ Some plan_file → slice_get output.texts 1 ≡ Some cert_file
    → CheckAnswers (network_file ∷ plan_file ∷ cert_file ∷ []) checked
    → (plan : Plan) × (plan_in plan_file ≡ Ok plan) × IsOutcome (accepted (whole_verdict plan) plan) checked

-- what a proof shows of a plan: that no valid schedule undercuts it, or that there is none
abbrev pub proved_verdict : Plan → Verdict
proved_verdict (plan.Schedule span offsets) = Optimal
proved_verdict plan.None = NoSchedule

-- where `prove` has proved a plan, whatever `check` answers to the files of the network and the plan and to the certificate that was written is that it is
-- accepted
abbrev pub ProvedIsAccepted : Type 0
ProvedIsAccepted = (limit : ℕ) (network_file plan_file cert_file : List ℕ) (output checked : Output)
    → ProveAnswers limit (network_file ∷ plan_file ∷ []) output → output.status ≡ 0 → slice_get output.texts 0 ≡ Some cert_file
    → CheckAnswers (network_file ∷ plan_file ∷ cert_file ∷ []) checked
    → (stated : Plan) × (plan_in plan_file ≡ Ok stated) × IsOutcome (accepted (proved_verdict stated) stated) checked
