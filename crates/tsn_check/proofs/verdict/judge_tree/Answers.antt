use Rattle.std.proofs.Common.{inl, inr, ◌∙◌, sym, subst, arith}
use Rattle.std.proofs.lemmas.Result.{err_from_is_err_and}
use Rattle.std.proofs.lemmas.Grind.{common_steps}
use Rattle.tsn_check.specs.Plans.{IsPlanRight}
use Rattle.tsn_check.proofs.Plans.{claim_refutes}
use Rattle.tsn_check.proofs.Verdicts.{checked, shown_optimal, shown_first, shown_none, tree_fault_first, why_refutes}
use Rattle.tsn_check.proofs.verdict.judge_tree.Goals as goal

pub returns-in_err-judge_claim-clause-complete : goal.returns-in_err-judge_claim-clause-complete
returns-in_err-judge_claim-clause-complete c certifies =
    absurd (claim_refutes c.timing-timing.result.now c.args.plan.now c.in_err-judge_claim.field-0.0 c.in_err-judge_claim.ensures.fault
    (subst (λ n. IsPlanRight n c.args.plan.now) (sym c.timing-timing.ensures) certifies.plan_right))

pub returns-in_err-check_nodes-clause-complete : goal.returns-in_err-check_nodes-clause-complete
returns-in_err-check_nodes-clause-complete c certifies =
    let p = err_from_is_err_and c.from_residual-in_err-check_nodes.result c.from_residual-in_err-check_nodes.ensures.1 in
    rw (p.1, p.2) (elim c.in_err-check_nodes.ensures.err [
      | inl memory ↦ memory
      | inr fault ↦ absurd (why_refutes c.args.problem.now.network c.args.plan.now c.args.cert.now c.in_err-check_nodes.field-0.0
          (tree_fault_first c.args.problem.now.network c.timing-timing.result.now c.args.plan.now c.args.cert.now c.target_of-wanted.result _
          c.in_err-check_nodes.field-0.0
          c.timing-timing.ensures c.target_of-wanted.ensures c.if-stated-wanted.false c.list.ensures fault) certifies)
    ])

pub returns-in_err-check_nodes-clause-fault : goal.returns-in_err-check_nodes-clause-fault
returns-in_err-check_nodes-clause-fault c =
    let p = err_from_is_err_and c.from_residual-in_err-check_nodes.result c.from_residual-in_err-check_nodes.ensures.1 in
    rw (p.1, p.2) (elim c.in_err-check_nodes.ensures.err [
      | inl memory ↦ inl memory
      | inr fault ↦ inr (tree_fault_first c.args.problem.now.network c.timing-timing.result.now c.args.plan.now c.args.cert.now c.target_of-wanted.result _
          c.in_err-check_nodes.field-0.0
          c.timing-timing.ensures c.target_of-wanted.ensures c.if-stated-wanted.false c.list.ensures fault)
    ])

pub returns-clause-accepted : goal.returns-clause-accepted
returns-clause-accepted c =
    checked c.args.problem.now.network c.timing-timing.result.now c.args.plan.now c.args.cert.now c.target_of-wanted.result _ c.timing-timing.ensures
    c.target_of-wanted.ensures
    c.if-stated-wanted.false c.list.ensures c.in_ok-check_nodes.ensures.ok

pub returns-clause-optimal : goal.returns-clause-optimal
returns-clause-optimal c is =
    let certifies = checked c.args.problem.now.network c.timing-timing.result.now c.args.plan.now c.args.cert.now c.target_of-wanted.result _
    c.timing-timing.ensures c.target_of-wanted.ensures
    c.if-stated-wanted.false c.list.ensures c.in_ok-check_nodes.ensures.ok in
    shown_optimal c.args.problem.now.network c.timing-timing.result.now c.args.plan.now c.args.cert.now c.target_of-wanted.result c.timing-timing.ensures
    c.target_of-wanted.ensures
    certifies (sym c.verdict_on.ensures ∙ cc is)

pub returns-clause-first : goal.returns-clause-first
returns-clause-first c is =
    let certifies = checked c.args.problem.now.network c.timing-timing.result.now c.args.plan.now c.args.cert.now c.target_of-wanted.result _
    c.timing-timing.ensures c.target_of-wanted.ensures
    c.if-stated-wanted.false c.list.ensures c.in_ok-check_nodes.ensures.ok in
    shown_first c.args.problem.now.network c.timing-timing.result.now c.args.plan.now c.args.cert.now c.target_of-wanted.result c.timing-timing.ensures
    c.target_of-wanted.ensures
    certifies (sym c.verdict_on.ensures ∙ cc is)

pub returns-clause-no_schedule : goal.returns-clause-no_schedule
returns-clause-no_schedule c is =
    let certifies = checked c.args.problem.now.network c.timing-timing.result.now c.args.plan.now c.args.cert.now c.target_of-wanted.result _
    c.timing-timing.ensures c.target_of-wanted.ensures
    c.if-stated-wanted.false c.list.ensures c.in_ok-check_nodes.ensures.ok in
    shown_none c.args.problem.now.network c.timing-timing.result.now c.args.plan.now c.args.cert.now c.target_of-wanted.result c.timing-timing.ensures
    c.target_of-wanted.ensures
    certifies (sym c.verdict_on.ensures ∙ cc is)

pub returns-then-stated-wanted-clause-accepted : goal.returns-then-stated-wanted-clause-accepted
returns-then-stated-wanted-clause-accepted c = grind (arith, common_steps) steps 2000000

pub returns-then-stated-wanted-clause-verdict : goal.returns-then-stated-wanted-clause-verdict
returns-then-stated-wanted-clause-verdict c = grind (arith, common_steps) steps 2000000

pub check_nodes-requires : goal.check_nodes-requires
check_nodes-requires c = grind (arith, common_steps) steps 2000000
