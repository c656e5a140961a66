use Rattle.std.proofs.Common.{◌≡◌, ℕ, Result, Ok, Err, IfOk, None, String, Global, string_bytes, inr, refl, sym, subst}
use Rattle.tsn_model.specs.Network.{Network}
use Rattle.tsn_cert.specs.declared.plan.Plan.{Plan}
use Rattle.tsn_check.specs.Numbers.{plan_code}
use Rattle.tsn_check.specs.Faults.{IsWrongClaim}
use Rattle.tsn_check.specs.declared.why.PlanFault.{PlanFault}
use Rattle.tsn_outcome.specs.Outcome.{IsOutcome}
use Rattle.tsn_outcome.specs.declared.outcome.Outcome.TheVariants.{RefusedPlan}
use Rattle.tsn_cli.specs.declared.run_output.RunOutput.{RunOutput}
use Rattle.tsn_cli.specs.RunOutput.{line_alone, printed}
use Rattle.tsn_cli.specs.Prove.{Judges, found_of}
use Rattle.tsn_cli.proofs.prove_plan.judgement.Goals as goal

-- what is printed of a plan with a first fault is that it is refused for it
rejects : {E : Type 0} (limit : ℕ) (network timing : Network) (plan : Plan) (fault : PlanFault) (answer : Result (RunOutput (String Global)) E)
    → timing ≡ network → IsWrongClaim timing plan fault
    → IfOk answer (λ output. printed string_bytes (Ok output) ≡ line_alone (RefusedPlan (plan_code fault)))
    → IfOk answer (λ output. found_of output.answer.outcome ≡ None) → IfOk answer (Judges limit network plan)
rejects limit network timing plan fault (Ok output) same wrong said none =
    let is = subst (IsOutcome (RefusedPlan (plan_code fault))) (sym said) (refl, (refl, (refl, refl))) in
    inr ((plan_code fault, (fault, subst (λ n. IsWrongClaim n plan fault) same wrong, refl), is), none)
rejects limit network timing plan fault (Err refused) same wrong said none = tt

pub returns-in-Err : goal.returns-in-Err
returns-in-Err g c =
    rejects c.args.limit c.args.problem.now.network c.timing.result.now c.args.plan.now c.in-Err.fault c.rejected.result
    c.timing.ensures c.in-Err.ensures.fault c.rejected.ensures.line c.rejected.ensures.none
