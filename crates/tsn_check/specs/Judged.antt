-- How a certificate of a plan is judged, of whatever kind it is.
--     IsJudged     the verdict on it, and what that means, or its first fault
use Rattle.std.specs.Prelude.{◌≡◌, ◌⊎◌, Result, Ok, IfOk, IfErr, IsOkUnless}
use Rattle.tsn_model.specs.Network.{Network}
use Rattle.tsn_model.specs.Schedule.{HasNoSchedule}
use Rattle.tsn_cert.specs.declared.plan.Plan.{Plan}
use Rattle.tsn_check.specs.Plans.{IsOptimalPlan, IsFirstPlan}
use Rattle.tsn_check.specs.declared.verdict.Verdict.{Verdict}
use Rattle.tsn_check.specs.declared.verdict.Verdict.TheVariants.{Optimal, First, NoSchedule}

-- What certifies the plan is accepted with the verdict that is shown, and nothing else is. A verdict means that the plan is optimal, that
-- it is the first of the optimal ones, or that there is no schedule. Of what isn't accepted the first fault is told. Memory may be wanting
-- in place of either.
pub record IsJudged {Fault : Type 0} (network : Network) (plan : Plan) (certifies : Type 0) (shown : Verdict) (memory : Fault)
    (is_fault : Fault → Type 0) (result : Result Verdict Fault) : Type 0 where
  pub accepted : IfOk result (λ verdict. certifies)
  pub verdict : IfOk result (λ verdict. verdict ≡ shown)
  pub optimal : result ≡ Ok Optimal → IsOptimalPlan network plan
  pub first : result ≡ Ok First → IsFirstPlan network plan
  pub no_schedule : result ≡ Ok NoSchedule → HasNoSchedule network
  pub complete : certifies → IsOkUnless result memory
  pub fault : IfErr result (λ fault. (fault ≡ memory) ⊎ is_fault fault)
