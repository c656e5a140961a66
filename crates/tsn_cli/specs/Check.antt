-- What `check` answers.
--     RefusesCert                   the certificate file is refused
--     accepted                      what is answered where it shows what the plan says
--     ShowsNothing                  the certificate doesn't show what the plan says
--     CertAnswersBy, CheckAnswers   the answer to the files read so far, of any command that reads a certificate, and of `check`
use Rattle.std.specs.Prelude.{◌≡◌, ◌⊎◌, ℕ, List, [], ◌∷◌, Ok, Err}
use Rattle.tsn_model.specs.Network.{Network}
use Rattle.tsn_net.specs.File.{States}
use Rattle.tsn_timing.specs.Problem.{NamedNetwork}
use Rattle.tsn_cert.specs.declared.plan.Plan.{Plan}
use Rattle.tsn_cert.specs.declared.fault.FileFault.{FileFault}
use Rattle.tsn_cert.specs.Plan.{plan_in}
use Rattle.tsn_cert.specs.declared.certificate.Certificate.{Certificate}
use Rattle.tsn_cert.specs.Certificate.{certificate_in}
use Rattle.tsn_check.specs.declared.fault.CheckFault.{CheckFault}
use Rattle.tsn_check.specs.declared.verdict.Verdict.{Verdict}
use Rattle.tsn_check.specs.declared.verdict.Verdict.TheVariants.{Optimal, First, NoSchedule}
use Rattle.tsn_check.specs.Plans.{span_in}
use Rattle.tsn_argue.specs.Certified.{Certifies, certificate_verdict}
use Rattle.tsn_argue.specs.Faults.{IsFirstFault}
use Rattle.tsn_outcome.specs.declared.outcome.FileKind.TheVariants as kind
use Rattle.tsn_outcome.specs.declared.outcome.Outcome.{Outcome}
use Rattle.tsn_outcome.specs.declared.outcome.Outcome.TheVariants.{AcceptedOptimal, AcceptedFirst, AcceptedNone, RefusedFile, RefusedCert}
use Rattle.tsn_outcome.specs.Run.{Output, Command}
use Rattle.tsn_outcome.specs.Outcome.{IsOutcome}
use Rattle.tsn_cli.specs.Refusal.{RefusesNetwork, RefusesPlan}

-- the certificate file, of any format, is refused
abbrev pub RefusesCert : List ℕ → Output → Type 0
RefusesCert file output = (fault : FileFault) × (certificate_in file ≡ Err fault) × IsOutcome (RefusedFile kind.Cert fault) output

-- what is answered where the certificate shows what the plan says, with this verdict
abbrev pub accepted : Verdict → Plan → Outcome
accepted Optimal plan = AcceptedOptimal (span_in plan)
accepted First plan = AcceptedFirst (span_in plan)
accepted NoSchedule plan = AcceptedNone

-- it doesn't show that, and this is the first fault
abbrev pub ShowsNothing : Network → Plan → Certificate → Output → Type 0
ShowsNothing network plan certificate output =
    (fault : CheckFault) × IsFirstFault network plan certificate fault × IsOutcome (RefusedCert fault) output

-- the answer to a certificate file for this plan, by the answer to a certificate that shows what the plan says
abbrev pub JudgesCert : (Certificate → Output → Type 0) → Network → Plan → List ℕ → Output → Type 0
JudgesCert Accepts network plan file output =
    RefusesCert file output
    ⊎ ((certificate : Certificate) × (certificate_in file ≡ Ok certificate)
    × ((Certifies network plan certificate × Accepts certificate output) ⊎ ShowsNothing network plan certificate output))

-- the file states a network
abbrev pub StatesNetwork : List ℕ → Type 0
StatesNetwork file = (problem : NamedNetwork) × States file problem

-- the answer to the files read so far: each is judged once those before it were taken
abbrev pub CertAnswersBy : (NamedNetwork → Plan → Certificate → Output → Type 0) → Command
CertAnswersBy Accepts [] output = ⊥
CertAnswersBy Accepts (network ∷ []) output = RefusesNetwork network output
CertAnswersBy Accepts (network ∷ plan ∷ []) output = StatesNetwork network × RefusesPlan plan output
CertAnswersBy Accepts (network ∷ plan ∷ cert ∷ []) output =
    (problem : NamedNetwork) × States network problem
    × ((stated : Plan) × (plan_in plan ≡ Ok stated) × JudgesCert (Accepts problem stated) problem.network stated cert output)
CertAnswersBy Accepts _ output = ⊥

-- `check` says in a line what the certificate shows
abbrev pub IsAccepted : NamedNetwork → Plan → Certificate → Output → Type 0
IsAccepted problem plan certificate output = IsOutcome (accepted (certificate_verdict certificate plan) plan) output

abbrev pub CheckAnswers : Command
CheckAnswers = CertAnswersBy IsAccepted
