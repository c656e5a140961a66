use Rattle.std.proofs.Common.{◌≡◌, ◌⊎◌, Result, Ok, Err, IfOk, IsErr, inl, inr, refl, subst, sym, true≢false}
use Rattle.tsn_model.specs.Network.{Network}
use Rattle.tsn_cert.specs.declared.plan.Plan.{Plan}
use Rattle.tsn_check.specs.Numbers.{plan_code}
use Rattle.tsn_check.specs.Faults.{IsWrongPlan}
use Rattle.tsn_check.specs.declared.why.PlanFault.{PlanFault}
use Rattle.tsn_check.specs.declared.why.PlanFault.TheVariants.{Memory}
use Rattle.tsn_outcome.specs.Run.{Output}
use Rattle.tsn_outcome.specs.Outcome.{IsOutcome}
use Rattle.tsn_outcome.specs.declared.outcome.Outcome.TheVariants.{RefusedPlan}
use Rattle.tsn_cli.specs.Shown.{shown_output}
use Rattle.tsn_cli.specs.Tables.{RejectsPlan, ShowsPlan}
use Rattle.tsn_cli.proofs.tables.plan_shown.Goals as goal

-- what is said of a plan with a first fault is that it is refused for it
rejects : {A E : Type 0} (network timing : Network) (plan : Plan) (fault : PlanFault) (Shows : A → Type 0) (output : A → Output) (answer : Result A E)
    → timing ≡ network → (fault ≡ Memory) ⊎ IsWrongPlan timing plan fault → (fault ≡ Memory → IsErr answer)
    → IfOk answer (λ a. IsOutcome (RefusedPlan (plan_code fault)) (output a)) → IfOk answer (λ a. Shows a ⊎ RejectsPlan network plan (output a))
rejects network timing plan fault Shows output (Ok a) same (inl memory) none said = absurd (true≢false (sym (none memory)))
rejects network timing plan fault Shows output (Ok a) same (inr wrong) none said =
    inr (plan_code fault, (fault, subst (λ n. IsWrongPlan n plan fault) same wrong, refl), said)
rejects network timing plan fault Shows output (Err refused) same found none said = tt

pub returns-in-Err : goal.returns-in-Err
returns-in-Err c =
    rejects c.args.claim.problem.now.network c.timing.result.now c.args.claim.plan.now c.in-Err.fault
    (λ a. ShowsPlan c.args.table c.args.claim.problem.now c.args.claim.plan.now (shown_output (Ok a))) (λ a. shown_output (Ok a)) c.rejected.result
    c.timing.ensures c.in-Err.ensures.fault c.rejected.ensures.memory c.rejected.ensures.said
