-- What an argument shows of a plan that was accepted as no more than that.
use Rattle.std.proofs.Common.{◌≡◌, ◌≤◌, ◌<◌, ◌+◌, ℕ, List, length, Some, sym, subst, arith}
use Rattle.tsn_model.specs.Network.{Network}
use Rattle.tsn_model.specs.Schedule.{HasNoSchedule, IsOptimal, flowspan, target_of}
use Rattle.tsn_cert.specs.declared.plan.Plan.{Plan}
use Rattle.tsn_cert.specs.declared.plan.Plan.TheVariants as plan
use Rattle.tsn_model.proofs.Schedules.{flowspan-le-cycle}
use Rattle.tsn_check.specs.Plans.{IsOptimalPlan, IsPlanRight, offsets_in, span_in}
use Rattle.tsn_check.specs.declared.verdict.Verdict.TheVariants.{Optimal, NoSchedule}
use Rattle.tsn_cert.specs.declared.argument.Argument.{Argument}
use Rattle.tsn_cert.specs.declared.argument.Goal.{Goal}
use Rattle.tsn_cert.specs.declared.argument.Goal.TheVariants as aim
use Rattle.tsn_cert.specs.ArgumentLaws.{ArgumentIsReadAgain}
use Rattle.tsn_argue.specs.Certified as argue
use Rattle.tsn_argue.specs.Certified.{argument_verdict, goal_for}
use Rattle.tsn_answer.specs.ProofLaws.{ProvedIsNotUndercut}
use Rattle.tsn_answer.specs.Proof.{IsShown, IsShownBy}

optimal_shown : (network : Network) (plan : Plan) → IsOptimalPlan network plan → IsShown network plan
optimal_shown network (plan.Schedule span offsets) optimal = optimal
optimal_shown network plan.None optimal = absurd optimal

none_shown : (network : Network) (goal : Goal) (plan : Plan) → NoSchedule ≡ argument_verdict goal → (found : _) → goal_for goal plan ≡ Some found
    → HasNoSchedule network → IsShown network plan
none_shown network aim.First plan is found fits none = cc
none_shown network aim.Least plan is found fits none = cc
none_shown network aim.None (plan.Schedule span offsets) is found fits none = cc
none_shown network aim.None plan.None is found fits none = none

pub shown_optimal : (network : Network) (limit : ℕ) (plan : Plan) (argument : Argument) → argue.ArgumentCertifies network plan argument
    → Optimal ≡ argument_verdict argument.goal → IsOptimalPlan network plan
    → length argument.steps ≤ limit → ArgumentIsReadAgain argument → IsShownBy network limit plan argument
shown_optimal network limit plan argument shows is optimal within again =
    record { shown = optimal_shown network plan optimal; shows = shows; least = λ first. cc; within = within; read_again = again }

pub shown_none : (network : Network) (limit : ℕ) (plan : Plan) (argument : Argument) → argue.ArgumentCertifies network plan argument
    → NoSchedule ≡ argument_verdict argument.goal → HasNoSchedule network
    → length argument.steps ≤ limit → ArgumentIsReadAgain argument → IsShownBy network limit plan argument
shown_none network limit plan argument shows is none within again =
    record {
      shown = none_shown network argument.goal plan is shows.goal shows.fitting.1 none;
      shows = shows;
      least = λ first. cc;
      within = within;
      read_again = again;
    }

-- a plan that is shown isn't undercut
pub never_both : ProvedIsNotUndercut
unfolding flowspan target_of
never_both network limit other_limit stated plan.None argument count other_count proof found = absurd found.0
never_both network limit other_limit (plan.Schedule span offsets) (plan.Schedule least others) argument count other_count proof found =
    let optimal : IsOptimal network offsets = proof.0.shown.0 in
    let low : flowspan network offsets ≤ flowspan network others = optimal.least others found.0.0 in
    let is : least ≡ flowspan network others = found.0.1 in
    let below : least < flowspan network offsets = found.0.2 in
    omega arith
never_both network limit other_limit plan.None (plan.Schedule least others) argument count other_count proof found =
    let none : HasNoSchedule network = proof.0.shown in
    none.none others found.0.0

-- what no valid schedule is to undercut
pub target_schedule : (network : Network) (stated : Plan) (span : ℕ) (offsets : List ℕ) → stated ≡ plan.Schedule span offsets
    → IsPlanRight network stated → span ≡ target_of network (offsets_in stated)
unfolding target_of
target_schedule network stated span offsets is right =
    let own : span ≡ flowspan network offsets = (subst (IsPlanRight network) is right).1 in
    subst (λ (p : Plan). span ≡ target_of network (offsets_in p)) (sym is) own

pub target_none : (network : Network) (stated : Plan) (target : ℕ) → stated ≡ plan.None → target ≡ network.cycle + 1
    → target ≡ target_of network (offsets_in stated)
unfolding target_of
target_none network stated target is past = subst (λ (p : Plan). target ≡ target_of network (offsets_in p)) (sym is) past

-- an optimal plan is done within the cycle
pub optimal_within : (network : Network) (stated : Plan) → IsOptimalPlan network stated → span_in stated ≤ network.cycle
optimal_within network (plan.Schedule span offsets) optimal = subst (λ n. n ≤ network.cycle) (sym optimal.1) (flowspan-le-cycle network offsets optimal.0.valid)
optimal_within network plan.None optimal = absurd optimal
