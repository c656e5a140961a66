-- What an accepted argument shows, and what a fault of its steps is.
use Rattle.std.proofs.Common.{◌≡◌, List, Option, Some, ◌∙◌, inr, subst}
use Rattle.tsn_model.specs.Network.{Network, IsWellFormed}
use Rattle.tsn_model.specs.Schedule.{HasNoSchedule}
use Rattle.tsn_model.specs.Argument as model
use Rattle.tsn_model.specs.Argument.{goal_first, goal_least, goal_none, Argues}
use Rattle.tsn_model.proofs.Arguments.{argued_first, argued_optimal, argued_none}
use Rattle.tsn_cert.specs.declared.plan.Plan.{Plan}
use Rattle.tsn_cert.specs.declared.plan.Plan.TheVariants as plan
use Rattle.tsn_cert.specs.Argument.{steps_of}
use Rattle.tsn_cert.specs.declared.argument.Argument.{Argument}
use Rattle.tsn_cert.specs.declared.argument.Goal.{Goal}
use Rattle.tsn_cert.specs.declared.argument.Goal.TheVariants as aim
use Rattle.tsn_cert.specs.declared.step.Step.{Step}
use Rattle.tsn_check.specs.Plans.{IsPlanRight, IsOptimalPlan, IsFirstPlan}
use Rattle.tsn_check.specs.declared.verdict.Verdict.TheVariants.{Optimal, First, NoSchedule}
use Rattle.tsn_argue.specs.Certified.{goal_for, IsFitting, ArgumentCertifies, argument_verdict}
use Rattle.tsn_argue.specs.Faults.{IsArgumentFault, IsWhy}
use Rattle.tsn_check.specs.declared.argument.ArgumentFault.{ArgumentFault}
use Rattle.tsn_argue.specs.Told.{Event, with_told, told_of}

-- ---- what a goal shows of a plan

optimal_by : (network : Network) → IsWellFormed network → (goal : Goal) (p : Plan) (asked : model.Goal) (steps : List model.Step) → IsPlanRight network p
    → goal_for goal p ≡ Some asked → Argues network asked steps → argument_verdict goal ≡ Optimal → IsOptimalPlan network p
optimal_by network formed aim.Least (plan.Schedule span offsets) asked steps right fits argues is =
    let same : asked ≡ goal_least offsets = cc fits in
    (argued_optimal network formed offsets right.0 steps (subst (λ g. Argues network g steps) same argues), right.1)
optimal_by network formed aim.First (plan.Schedule span offsets) asked steps right fits argues is = cc is
optimal_by network formed aim.None (plan.Schedule span offsets) asked steps right fits argues is = cc fits
optimal_by network formed aim.Least plan.None asked steps right fits argues is = cc fits
optimal_by network formed aim.First plan.None asked steps right fits argues is = cc fits
optimal_by network formed aim.None plan.None asked steps right fits argues is = cc is

first_by : (network : Network) → IsWellFormed network → (goal : Goal) (p : Plan) (asked : model.Goal) (steps : List model.Step) → IsPlanRight network p
    → goal_for goal p ≡ Some asked → Argues network asked steps → argument_verdict goal ≡ First → IsFirstPlan network p
first_by network formed aim.First (plan.Schedule span offsets) asked steps right fits argues is =
    let same : asked ≡ goal_first offsets = cc fits in
    (argued_first network formed offsets right.0 steps (subst (λ g. Argues network g steps) same argues), right.1)
first_by network formed aim.Least (plan.Schedule span offsets) asked steps right fits argues is = cc is
first_by network formed aim.None (plan.Schedule span offsets) asked steps right fits argues is = cc fits
first_by network formed aim.Least plan.None asked steps right fits argues is = cc fits
first_by network formed aim.First plan.None asked steps right fits argues is = cc fits
first_by network formed aim.None plan.None asked steps right fits argues is = cc is

none_by : (network : Network) → IsWellFormed network → (goal : Goal) (p : Plan) (asked : model.Goal) (steps : List model.Step)
    → goal_for goal p ≡ Some asked → Argues network asked steps → argument_verdict goal ≡ NoSchedule → HasNoSchedule network
none_by network formed aim.None plan.None asked steps fits argues is =
    let same : asked ≡ goal_none = cc fits in
    argued_none network formed steps (subst (λ g. Argues network g steps) same argues)
none_by network formed aim.First (plan.Schedule span offsets) asked steps fits argues is = cc is
none_by network formed aim.Least (plan.Schedule span offsets) asked steps fits argues is = cc is
none_by network formed aim.None (plan.Schedule span offsets) asked steps fits argues is = cc fits
none_by network formed aim.First plan.None asked steps fits argues is = cc is
none_by network formed aim.Least plan.None asked steps fits argues is = cc is

-- ---- what an argument shows

pub shown_optimal : (network timing : Network) (p : Plan) (argument : Argument) → timing ≡ network → IsWellFormed timing → ArgumentCertifies network p argument
    → argument_verdict argument.goal ≡ Optimal → IsOptimalPlan network p
shown_optimal network timing p argument same formed shows is =
    optimal_by network (subst IsWellFormed same formed) argument.goal p shows.goal (steps_of argument.steps) shows.plan_right shows.fitting.1 shows.argues is

pub shown_first : (network timing : Network) (p : Plan) (argument : Argument) → timing ≡ network → IsWellFormed timing → ArgumentCertifies network p argument
    → argument_verdict argument.goal ≡ First → IsFirstPlan network p
shown_first network timing p argument same formed shows is =
    first_by network (subst IsWellFormed same formed) argument.goal p shows.goal (steps_of argument.steps) shows.plan_right shows.fitting.1 shows.argues is

pub shown_none : (network timing : Network) (p : Plan) (argument : Argument) → timing ≡ network → IsWellFormed timing → ArgumentCertifies network p argument
    → argument_verdict argument.goal ≡ NoSchedule → HasNoSchedule network
shown_none network timing p argument same formed shows is =
    none_by network (subst IsWellFormed same formed) argument.goal p shows.goal (steps_of argument.steps) shows.fitting.1 shows.argues is

-- ---- what the code found

module _ (network timing : Network) (p : Plan) (argument : Argument) (goal : model.Goal) (steps : List Step) (same : timing ≡ network)
    (right : IsPlanRight timing p) (fitting : IsFitting timing p argument goal) (listed : steps ≡ argument.steps) where
  -- the plan and the goal are right, and the steps argue it
  pub argued : Argues timing goal (steps_of steps) → ArgumentCertifies network p argument
  argued argues = record {
    plan_right = subst (λ n. IsPlanRight n p) same right;
    goal = goal;
    fitting = subst (λ n. IsFitting n p argument goal) same fitting;
    argues = subst (λ n. Argues n goal (steps_of argument.steps)) same (subst (λ s. Argues timing goal (steps_of s)) listed argues);
  }

  -- a fault of the steps is the first one
  pub step_fault_first : (fault : ArgumentFault) → IsArgumentFault timing goal (steps_of steps) fault → IsWhy network p argument fault
  step_fault_first fault is =
      let here : IsArgumentFault timing goal (steps_of argument.steps) fault = subst (λ s. IsArgumentFault timing goal (steps_of s) fault) listed is in
      let whole = subst (λ n. IsArgumentFault n goal (steps_of argument.steps) fault) same here in
      inr (inr (subst (λ n. IsPlanRight n p) same right, (goal, subst (λ n. IsFitting n p argument goal) same fitting, whole)))

-- what is told by the goal that was found is told by any goal that fits
pub told_fitting : (network timing : Network) (p : Plan) (argument : Argument) (asked other : model.Goal) (steps : List Step)
    (heard after : Option (List Event)) → timing ≡ network → IsFitting timing p argument asked → steps ≡ argument.steps
    → after ≡ with_told heard (told_of timing asked (steps_of steps)) → IsFitting network p argument other
    → after ≡ with_told heard (told_of network other (steps_of argument.steps))
told_fitting network timing p argument asked other steps heard after same fits are told also =
    let one : goal_for argument.goal p ≡ Some asked = fits.1 in
    let two : goal_for argument.goal p ≡ Some other = also.1 in
    let goals : asked ≡ other = cc in
    told ∙ (λ i. with_told heard (told_of (same i) (goals i) (steps_of (are i))))
