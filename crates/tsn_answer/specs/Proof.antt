-- What is found of a plan.
--     IsShown        what a plan says is so
--     IsShownBy      an argument that shows it
--     Undercuts      a schedule of lesser flowspan than a target
--     IsBound        what no schedule undercuts, within the cycle
--     IsProof        what is found of a plan
--     IsTold         how many conflicts are told of, where no argument is found
use Rattle.std.specs.Prelude.{◌≡◌, ◌≢◌, ◌≤◌, ◌<◌, ℕ, length}
use Rattle.tsn_model.specs.Network.{Network}
use Rattle.tsn_model.specs.Schedule.{IsValid, flowspan, target_of, HasNoSchedule}
use Rattle.tsn_cert.specs.declared.plan.Plan.{Plan}
use Rattle.tsn_cert.specs.declared.plan.Plan.TheVariants as plan
use Rattle.tsn_check.specs.declared.verdict.Verdict.TheVariants as verdict
use Rattle.tsn_check.specs.Plans.{IsOptimalPlan, offsets_in}
use Rattle.tsn_cert.specs.declared.argument.Argument.{Argument}
use Rattle.tsn_cert.specs.ArgumentLaws.{ArgumentIsReadAgain}
use Rattle.tsn_argue.specs.Certified.{argument_verdict}
use Rattle.tsn_argue.specs.Certified as argue
use Rattle.tsn_branch.specs.Bound.{IsLowerBound}
use Rattle.tsn_answer.specs.declared.proof.Proof.{Proof}
use Rattle.tsn_answer.specs.declared.proof.Proof.TheVariants.{Proved, Undercut, Stopped}

-- the plan is a schedule that no valid one undercuts; or it is that there is none, and there is none
abbrev pub IsShown : Network → Plan → Type 0
IsShown network (plan.Schedule span offsets) = IsOptimalPlan network (plan.Schedule span offsets)
IsShown network plan.None = HasNoSchedule network

-- the argument, whose goal isn't that the plan is the first one, shows what the plan says, by at most so many steps, and is read again from its file
pub record IsShownBy (network : Network) (limit : ℕ) (plan : Plan) (argument : Argument) : Type 0 where
  pub shown : IsShown network plan
  pub shows : argue.ArgumentCertifies network plan argument
  pub least : argument_verdict argument.goal ≢ verdict.First
  pub within : length argument.steps ≤ limit
  pub read_again : ArgumentIsReadAgain argument

-- the plan is a valid schedule with its own flowspan, which is below the target
abbrev pub Undercuts : Network → ℕ → Plan → Type 0
Undercuts network target (plan.Schedule span offsets) = IsValid network offsets × (span ≡ flowspan network offsets) × (span < target)
Undercuts network target plan.None = ⊥

-- no valid schedule's flowspan is below the bound, which is at most the cycle
abbrev pub IsBound : Network → ℕ → Type 0
IsBound network bound = IsLowerBound network bound × (bound ≤ network.cycle)

-- what is found of the plan: an argument, of as many steps as is told; a schedule that undercuts it; or a bound. What is told besides is at most the limit
abbrev pub IsProof : Network → ℕ → Plan → Proof → Type 0
IsProof network limit plan (Proved argument count) = IsShownBy network limit plan argument × (count ≡ length argument.steps)
IsProof network limit plan (Undercut better count) = Undercuts network (target_of network (offsets_in plan)) better × (count ≤ limit)
IsProof network limit plan (Stopped bound count) = IsBound network bound × (count ≤ limit)

-- so many conflicts are told of, but with an argument, whose steps are
abbrev pub IsTold : ℕ → Proof → Type 0
IsTold conflicts (Proved argument count) = Unit {0}
IsTold conflicts (Undercut better count) = count ≡ conflicts
IsTold conflicts (Stopped bound count) = count ≡ conflicts
