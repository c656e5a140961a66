-- What a conflict-driven search comes to, once its argument is checked.
--     IsLearned     what is shown of the network, or known of it
--     bound_in      what no schedule undercuts by that
--     ShowsLeast    an argument that a plan is optimal
--     CountsBound   what it shows of the best schedule is known
use Rattle.std.specs.Prelude.{◌≡◌, ◌≤◌, ℕ, IfSome}
use Rattle.tsn_model.specs.Network.{Network}
use Rattle.tsn_cert.specs.declared.plan.Plan.{Plan}
use Rattle.tsn_cert.specs.declared.plan.Plan.TheVariants.{Schedule}
use Rattle.tsn_check.specs.Plans.{span_in}
use Rattle.tsn_check.specs.declared.verdict.Verdict.TheVariants.{Optimal}
use Rattle.tsn_cert.specs.declared.argument.Argument.{Argument}
use Rattle.tsn_argue.specs.Certified.{ArgumentCertifies, argument_verdict}
use Rattle.tsn_learn.specs.declared.learning.BestSoFar.{BestSoFar}
use Rattle.tsn_answer.specs.declared.known.Known.{Known}
use Rattle.tsn_worker.specs.declared.learned.Learned.{Learned}
use Rattle.tsn_worker.specs.declared.learned.Learned.TheVariants.{Shown, Open}
use Rattle.tsn_answer.specs.Known.{IsKnown, LosesNothing}
use Rattle.tsn_answer.specs.Answer.{IsArgued}

-- what is shown is so, by at most so many steps; where nothing is shown, nothing is lost of what was known before, and no more conflicts are told of
abbrev pub IsLearned : Network → ℕ → Known → Learned → Type 0
IsLearned network limit before (Shown plan argument) = IsArgued network limit plan argument
IsLearned network limit before (Open known count) = IsKnown network known × LosesNothing before known × IfSome count (λ count. count ≤ limit)

-- the flowspan of the plan that is shown, 0 where that is that there is none; else the bound that is known
abbrev pub bound_in : Learned → ℕ
bound_in (Shown plan argument) = span_in plan
bound_in (Open known count) = known.bound

-- the argument is right, and its goal is that no valid schedule undercuts the plan
abbrev pub ShowsLeast : Network → Plan → Argument → Type 0
ShowsLeast network plan argument = ArgumentCertifies network plan argument × (argument_verdict argument.goal ≡ Optimal)

-- where there is a best schedule, with an argument that no valid one undercuts it, the bound that is known is no less than its flowspan
abbrev pub CountsBound : Network → BestSoFar → Known → Type 0
CountsBound network best known =
    IfSome best.schedule (λ offsets. IfSome best.argument (λ argument. ShowsLeast network (Schedule best.bound offsets.items) argument → best.bound ≤ known.bound))
