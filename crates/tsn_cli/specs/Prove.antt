-- What `prove` answers.
--     outcome_for                                              what is answered of a plan
--     cert_for, plan_for, output_of                            the texts of what was found of it
--     ProveAnswers                                             the answer to the files read so far
--     counted, found_of, FindsAs, FindsIn, ProveFinds                   what is found of a plan, as a value
--     Judges                                                   what is printed of a plan
use Rattle.std.specs.Global.{Global}
use Rattle.std.specs.Prelude.{◌≡◌, ◌⊎◌, ℕ, List, [], ◌∷◌, String, string_bytes, Ok, Option, Some, None}
use Rattle.tsn_model.specs.Network.{Network}
use Rattle.tsn_net.specs.File.{States}
use Rattle.tsn_timing.specs.Problem.{NamedNetwork}
use Rattle.tsn_cert.specs.declared.plan.Plan.{Plan}
use Rattle.tsn_cert.specs.declared.plan.Plan.TheVariants as plan
use Rattle.tsn_cert.specs.Plan.{plan_in, plan_text}
use Rattle.tsn_check.specs.declared.fault.CheckFault.{CheckFault}
use Rattle.tsn_check.specs.Plans.{IsPlanRight, span_in}
use Rattle.tsn_check.specs.Faults.{IsClaimFault}
use Rattle.tsn_cert.specs.Argument.{argument_text}
use Rattle.tsn_answer.specs.declared.proof.Proof.{Proof}
use Rattle.tsn_answer.specs.declared.proof.Proof.TheVariants.{Proved, Undercut, Stopped}
use Rattle.tsn_answer.specs.Proof.{IsProof}
use Rattle.tsn_cli.specs.declared.run_output.RunOutput.{RunOutput}
use Rattle.tsn_cli.specs.RunOutput.{printed}
use Rattle.tsn_outcome.specs.declared.outcome.Outcome.{Outcome}
use Rattle.tsn_outcome.specs.declared.outcome.Outcome.TheVariants as ends
use Rattle.tsn_outcome.specs.declared.outcome.Outcome.TheVariants.{RefusedPlan}
use Rattle.tsn_outcome.specs.Run.{Output, Command}
use Rattle.tsn_outcome.specs.Said.{line_of, settled_of, status_of}
use Rattle.tsn_outcome.specs.Outcome.{IsOutcome}
use Rattle.tsn_cli.specs.Refusal.{RefusesNetwork, RefusesPlan}

-- the flowspan of a plan, if it is a schedule
abbrev pub span_if_any : Plan → Option ℕ
span_if_any (plan.Schedule span offsets) = Some span
span_if_any plan.None = None

-- what is answered of a plan; the count is of the argument's steps, or else of the conflicts
abbrev pub outcome_for : Plan → Proof → Outcome
outcome_for stated (Proved argument count) = ends.Proved (span_if_any stated) count
outcome_for stated (Undercut better count) = ends.Undercut (span_if_any stated) (span_in better) count
outcome_for stated (Stopped bound count) = ends.Stopped (record { best = span_if_any stated; bound = bound }) count

-- the certificate file, and the plan file
abbrev pub cert_for : Proof → List ℕ
cert_for (Proved argument count) = argument_text argument
cert_for (Undercut better count) = []
cert_for (Stopped bound count) = []

abbrev pub plan_for : Proof → List ℕ
plan_for (Proved argument count) = []
plan_for (Undercut better count) = plan_text better
plan_for (Stopped bound count) = []

-- what is found of a plan is told by: the certificate file, the plan file, and the line
abbrev pub output_of : Plan → Proof → Output
output_of stated proof =
    record { status = status_of (outcome_for stated proof); texts = cert_for proof ∷ plan_for proof ∷ line_of (outcome_for stated proof) ∷ [] }

-- the plan is a valid schedule with its own flowspan, or that there is none, and this is found of it
abbrev pub FindsOf : ℕ → Network → Plan → Output → Type 0
FindsOf limit network stated output =
    IsPlanRight network stated × ((proof : Proof) × IsProof network limit stated proof × (output ≡ output_of stated proof))

-- it isn't, and this is the first fault
abbrev pub RejectsClaim : Network → Plan → Output → Type 0
RejectsClaim network stated output = (fault : CheckFault) × IsClaimFault network stated fault × IsOutcome (RefusedPlan fault) output

-- the answer to a plan file for this network, by at most so many steps or conflicts
abbrev pub ProvesPlan : ℕ → Network → List ℕ → Output → Type 0
ProvesPlan limit network file output =
    RefusesPlan file output ⊎ ((stated : Plan) × (plan_in file ≡ Ok stated) × (FindsOf limit network stated output ⊎ RejectsClaim network stated output))

-- the answer to the files read so far: each is judged once those before it were taken
abbrev pub ProveAnswers : ℕ → Command
ProveAnswers limit [] output = ⊥
ProveAnswers limit (network ∷ []) output = RefusesNetwork network output
ProveAnswers limit (network ∷ plan ∷ []) output = (problem : NamedNetwork) × States network problem × ProvesPlan limit problem.network plan output
ProveAnswers limit _ output = ⊥

-- what is found of a plan, as a value: an outcome that counts
abbrev pub counted : Option ℕ → Outcome → Option Outcome
counted None outcome = None
counted (Some count) outcome = Some outcome

abbrev pub found_of : Outcome → Option Outcome
found_of outcome = counted (settled_of outcome) outcome

-- this is found of the plan, which is a valid schedule with its own flowspan, or that there is none
abbrev pub FindsAs : ℕ → Network → Plan → Outcome → Output → Type 0
FindsAs limit network stated found output =
    IsPlanRight network stated × ((proof : Proof) × IsProof network limit stated proof × (outcome_for stated proof ≡ found) × (output ≡ output_of stated proof))

-- and of the plan of this file
abbrev pub FindsIn : ℕ → Network → List ℕ → Outcome → Output → Type 0
FindsIn limit network file found output = (stated : Plan) × (plan_in file ≡ Ok stated) × FindsAs limit network stated found output

-- the answer to the files read, by at most so many steps or conflicts, where this is found of the plan
abbrev pub ProveFinds : ℕ → Outcome → Command
ProveFinds limit found (network ∷ file ∷ []) output = (problem : NamedNetwork) × States network problem × FindsIn limit problem.network file found output
ProveFinds limit found _ output = ⊥

-- what is printed of a plan: its outcome is found of it; or it is rejected, and nothing is found
abbrev pub Judges : ℕ → Network → Plan → RunOutput (String Global) → Type 0
Judges limit network stated output =
    FindsAs limit network stated output.answer.outcome (printed string_bytes (Ok output))
    ⊎ (RejectsClaim network stated (printed string_bytes (Ok output)) × (found_of output.answer.outcome ≡ None))
