-- A certificate that shows what a plan says is accepted by `check`.
use Rattle.std.proofs.Common.{◌≡◌, inl, inr, ℕ, List, [], ◌∷◌, Result, Ok, Err, sym, ◌∙◌, subst}
use Rattle.tsn_net.specs.File.{States}
use Rattle.tsn_timing.specs.Problem.{NamedNetwork}
use Rattle.tsn_net.proofs.Stating.{stated_once}
use Rattle.tsn_cert.specs.declared.plan.Plan.{Plan}
use Rattle.tsn_cert.specs.Plan.{plan_in}
use Rattle.tsn_cert.specs.declared.certificate.Certificate.{Certificate}
use Rattle.tsn_cert.specs.Certificate.{certificate_in}
use Rattle.tsn_argue.specs.Certified.{Certifies, certificate_verdict}
use Rattle.tsn_argue.specs.Laws.{FirstFaultsRefute}
use Rattle.tsn_outcome.specs.Run.{Output}
use Rattle.tsn_outcome.specs.Outcome.{IsOutcome}
use Rattle.tsn_cli.specs.Check.{CheckAnswers, IsAccepted, JudgesCert, accepted}

-- a certificate that shows what the plan says is accepted
judged : FirstFaultsRefute → (problem : NamedNetwork) (stated : Plan) (whole : Certificate) (cert_file : List ℕ) (output : Output)
    → Certifies problem.network stated whole → certificate_in cert_file ≡ Ok whole → JudgesCert (IsAccepted problem stated) problem.network stated cert_file output
    → IsOutcome (accepted (certificate_verdict whole stated) stated) output
judged refutes problem stated whole cert_file output certifies is (inl refused) =
    let read = refused.1 in absurd (cc)
judged refutes problem stated whole cert_file output certifies is (inr read) =
    let reads = read.1 in
    let same : read.0 ≡ whole = cc in
    elim read.2 [
      | inl shows ↦ rw same at shows.1
      | inr fault ↦ absurd ((refutes problem.network stated read.0 fault.0 fault.1).0 (rw same certifies))
    ]

-- so it is where `check` answers to the files that say the plan and the certificate
pub certificate_accepted : FirstFaultsRefute → (network_file plan_file cert_file : List ℕ) (problem : NamedNetwork) (stated : Plan)
    (whole : Certificate) (output : Output)
    → States network_file problem → plan_in plan_file ≡ Ok stated → Certifies problem.network stated whole → certificate_in cert_file ≡ Ok whole
    → CheckAnswers (network_file ∷ plan_file ∷ cert_file ∷ []) output → IsOutcome (accepted (certificate_verdict whole stated) stated) output
certificate_accepted refutes network_file plan_file cert_file problem stated whole output states reads certifies is answers =
    let same : answers.0 ≡ problem = stated_once network_file answers.0 problem answers.1 states in
    let found = answers.2 in
    let read = found.1 in
    let same_plan : found.0 ≡ stated = cc in
    judged refutes problem stated whole cert_file output certifies is
    (subst (λ (p : Plan). JudgesCert (IsAccepted problem p) problem.network p cert_file output) same_plan
    (subst (λ (p : NamedNetwork). JudgesCert (IsAccepted p found.0) p.network found.0 cert_file output) same found.2))
