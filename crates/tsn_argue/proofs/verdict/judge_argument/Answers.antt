use Rattle.std.proofs.Common.{inl, inr, ◌∙◌, sym, subst}
use Rattle.tsn_check.specs.Plans.{IsPlanRight}
use Rattle.tsn_check.proofs.Plans.{claim_refutes}
use Rattle.std.proofs.lemmas.Result.{err_from_is_err_and}
use Rattle.tsn_argue.specs.Steps.{goal_of}
use Rattle.tsn_argue.proofs.Refuted.{why_refuted}
use Rattle.tsn_argue.proofs.Verdicts.{told_fitting, argued, step_fault_first, shown_optimal, shown_first, shown_none}
use Rattle.tsn_argue.proofs.verdict.judge_argument.Goals as goal

pub returns-in_err-judge_claim-clause-complete : goal.returns-in_err-judge_claim-clause-complete
returns-in_err-judge_claim-clause-complete g c shows =
    absurd (claim_refutes c.timing-timing.result.now c.args.plan.now c.in_err-judge_claim.field-0.0 c.in_err-judge_claim.ensures.fault
    (subst (λ n. IsPlanRight n c.args.plan.now) (sym c.timing-timing.ensures) shows.plan_right))

pub returns-in_err-check_steps-clause-complete : goal.returns-in_err-check_steps-clause-complete
returns-in_err-check_steps-clause-complete g c shows =
    let p = err_from_is_err_and c.from_residual-in_err-check_steps.result c.from_residual-in_err-check_steps.ensures.1 in
    rw (p.1, p.2) (elim c.in_err-check_steps.ensures.err [
      | inl memory ↦ memory
      | inr fault ↦ absurd (why_refuted c.args.problem.now.network c.args.plan.now c.args.argument.now c.in_err-check_steps.field-0.0
          (step_fault_first c.args.problem.now.network c.timing-timing.result.now c.args.plan.now c.args.argument.now (goal_of c.in_ok-aim.aim) _
          c.timing-timing.ensures c.in_ok-judge_claim.ensures.right c.in_ok-aim.ensures.1 c.list.ensures c.in_err-check_steps.field-0.0 fault) shows)
    ])

pub returns-in_err-check_steps-clause-fault : goal.returns-in_err-check_steps-clause-fault
returns-in_err-check_steps-clause-fault g c =
    let p = err_from_is_err_and c.from_residual-in_err-check_steps.result c.from_residual-in_err-check_steps.ensures.1 in
    rw (p.1, p.2) (elim c.in_err-check_steps.ensures.err [
      | inl memory ↦ inl memory
      | inr fault ↦ inr (step_fault_first c.args.problem.now.network c.timing-timing.result.now c.args.plan.now c.args.argument.now (goal_of c.in_ok-aim.aim) _
          c.timing-timing.ensures c.in_ok-judge_claim.ensures.right c.in_ok-aim.ensures.1 c.list.ensures c.in_err-check_steps.field-0.0 fault)
    ])

pub returns-clause-optimal : goal.returns-clause-optimal
returns-clause-optimal g c is =
    let shows = argued c.args.problem.now.network c.timing-timing.result.now c.args.plan.now c.args.argument.now (goal_of c.in_ok-aim.aim) _
    c.timing-timing.ensures c.in_ok-judge_claim.ensures.right c.in_ok-aim.ensures.1 c.list.ensures c.in_ok-check_steps.ensures.ok in
    shown_optimal c.args.problem.now.network c.timing-timing.result.now c.args.plan.now c.args.argument.now c.timing-timing.ensures
    c.cycle-cycle.ensures.well_formed shows (sym c.verdict_of.ensures ∙ cc is)

pub returns-clause-first : goal.returns-clause-first
returns-clause-first g c is =
    let shows = argued c.args.problem.now.network c.timing-timing.result.now c.args.plan.now c.args.argument.now (goal_of c.in_ok-aim.aim) _
    c.timing-timing.ensures c.in_ok-judge_claim.ensures.right c.in_ok-aim.ensures.1 c.list.ensures c.in_ok-check_steps.ensures.ok in
    shown_first c.args.problem.now.network c.timing-timing.result.now c.args.plan.now c.args.argument.now c.timing-timing.ensures
    c.cycle-cycle.ensures.well_formed shows (sym c.verdict_of.ensures ∙ cc is)

pub returns-clause-no_schedule : goal.returns-clause-no_schedule
returns-clause-no_schedule g c is =
    let shows = argued c.args.problem.now.network c.timing-timing.result.now c.args.plan.now c.args.argument.now (goal_of c.in_ok-aim.aim) _
    c.timing-timing.ensures c.in_ok-judge_claim.ensures.right c.in_ok-aim.ensures.1 c.list.ensures c.in_ok-check_steps.ensures.ok in
    shown_none c.args.problem.now.network c.timing-timing.result.now c.args.plan.now c.args.argument.now c.timing-timing.ensures
    c.cycle-cycle.ensures.well_formed shows (sym c.verdict_of.ensures ∙ cc is)

pub returns-clause-told : goal.returns-clause-told
returns-clause-told g c asked fits =
    told_fitting c.args.problem.now.network c.timing-timing.result.now c.args.plan.now c.args.argument.now (goal_of c.in_ok-aim.aim) asked _
    (g.L.Observer.heard c.args.observer.now) (g.L.Observer.heard c.check_steps.new.observer)
    c.timing-timing.ensures c.in_ok-aim.ensures.1 c.list.ensures c.in_ok-check_steps.ensures.told fits
