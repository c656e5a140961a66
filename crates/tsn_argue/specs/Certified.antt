-- What a certificate shows of a plan.
--     goal_for, IsFitting                      what an argument is to show of a plan
--     ArgumentCertifies, argument_verdict      the plan is right, and so is the argument; and what it then shows
--     Certifies, certificate_verdict           the same of a certificate of either kind: a tree, or an argument
use Rattle.std.specs.Prelude.{◌≡◌, Option, Some, None}
use Rattle.tsn_model.specs.Network.{Network}
use Rattle.tsn_model.specs.Schedule.{target_of}
use Rattle.tsn_model.specs.Argument as model
use Rattle.tsn_model.specs.Argument.{goal_first, goal_least, goal_none, Argues}
use Rattle.tsn_cert.specs.declared.plan.Plan.{Plan}
use Rattle.tsn_cert.specs.declared.plan.Plan.TheVariants as plan
use Rattle.tsn_cert.specs.Argument.{steps_of}
use Rattle.tsn_cert.specs.declared.argument.Argument.{Argument}
use Rattle.tsn_cert.specs.declared.argument.Goal.{Goal}
use Rattle.tsn_cert.specs.declared.argument.Goal.TheVariants as aim
use Rattle.tsn_cert.specs.declared.certificate.Certificate.{Certificate}
use Rattle.tsn_cert.specs.declared.certificate.Certificate.TheVariants.{Tree, Argument as Argued}
use Rattle.tsn_check.specs.Plans.{offsets_in, IsPlanRight}
use Rattle.tsn_check.specs.Certified as tree
use Rattle.tsn_check.specs.Certified.{verdict_of}
use Rattle.tsn_check.specs.declared.verdict.Verdict.{Verdict}
use Rattle.tsn_check.specs.declared.verdict.Verdict.TheVariants.{Optimal, First, NoSchedule}

-- what an argument of this goal is to show of the plan, where the goal fits it: a schedule, or that there is none
abbrev pub goal_for : Goal → Plan → Option model.Goal
goal_for aim.First (plan.Schedule span offsets) = Some (goal_first offsets)
goal_for aim.Least (plan.Schedule span offsets) = Some (goal_least offsets)
goal_for aim.None plan.None = Some goal_none
goal_for _ _ = None

-- the target is that of the plan, and the goal fits it
abbrev pub IsFitting : Network → Plan → Argument → model.Goal → Type 0
IsFitting network plan argument goal = (argument.target ≡ target_of network (offsets_in plan)) × (goal_for argument.goal plan ≡ Some goal)

-- the plan is right, and the argument shows its goal of it
pub record ArgumentCertifies (network : Network) (plan : Plan) (argument : Argument) : Type 0 where
  pub plan_right : IsPlanRight network plan
  pub goal : model.Goal
  pub fitting : IsFitting network plan argument goal
  pub argues : Argues network goal (steps_of argument.steps)

-- what a right argument of the plan shows
abbrev pub argument_verdict : Goal → Verdict
argument_verdict aim.First = First
argument_verdict aim.Least = Optimal
argument_verdict aim.None = NoSchedule

-- a certificate of either kind shows what it is to show of the plan
abbrev pub Certifies : Network → Plan → Certificate → Type 0
Certifies network plan (Tree cert) = tree.TreeCertifies network plan cert
Certifies network plan (Argued argument) = ArgumentCertifies network plan argument

abbrev pub certificate_verdict : Certificate → Plan → Verdict
certificate_verdict (Tree cert) plan = verdict_of cert.format plan
certificate_verdict (Argued argument) plan = argument_verdict argument.goal
