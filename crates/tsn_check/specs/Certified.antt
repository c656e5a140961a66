-- What a tree shows of a plan.
--     leaf_target, tie_plan     what the leaves of a format show, and with which schedule they may tie
--     TreeCertifies             the plan is right, and the nodes spell an accepted tree
--     verdict_of                what such a tree shows
use Rattle.std.specs.Prelude.{◌≡◌, ℕ, List, [], Option, None}
use Rattle.tsn_model.specs.Network.{Network}
use Rattle.tsn_model.specs.Schedule.{target_of}
use Rattle.tsn_model.specs.Certificate.{beyond, Tree, AcceptsBy, IsNodeShown, Spells}
use Rattle.tsn_cert.specs.declared.plan.Plan.{Plan}
use Rattle.tsn_cert.specs.declared.plan.Plan.TheVariants as plan
use Rattle.tsn_cert.specs.declared.cert.Cert.{Cert}
use Rattle.tsn_cert.specs.declared.cert.Format.{Format}
use Rattle.tsn_cert.specs.declared.cert.Format.TheVariants.{One, Two}
use Rattle.tsn_check.specs.Plans.{offsets_in, IsPlanRight}
use Rattle.tsn_check.specs.declared.verdict.Verdict.{Verdict}
use Rattle.tsn_check.specs.declared.verdict.Verdict.TheVariants.{Optimal, First, NoSchedule}

-- what each leaf shows every flowspan on its path to be at least: the target, or in format 2 what is worse
abbrev pub leaf_target : Network → Format → ℕ → ℕ
leaf_target network One target = target
leaf_target network Two target = beyond network target

-- the schedule with which a leaf may tie: none in format 1
abbrev pub tie_plan : Format → Option (List ℕ) → Option (List ℕ)
tie_plan One planned = None
tie_plan Two planned = planned

-- The plan is right, and the nodes spell a tree that is accepted, in the certificate's format, for what no schedule may undercut.
pub record TreeCertifies (network : Network) (plan : Plan) (cert : Cert) : Type 0 where
  pub plan_right : IsPlanRight network plan
  pub target_right : cert.target ≡ target_of network (offsets_in plan)
  pub tree : Tree
  pub spelled : Spells cert.nodes tree
  pub accepted : AcceptsBy (IsNodeShown network (leaf_target network cert.format cert.target) (tie_plan cert.format (offsets_in plan))) [] tree

-- what a certificate of the plan shows
abbrev pub verdict_of : Format → Plan → Verdict
verdict_of One (plan.Schedule span offsets) = Optimal
verdict_of Two (plan.Schedule span offsets) = First
verdict_of One plan.None = NoSchedule
verdict_of Two plan.None = NoSchedule
