use Rattle.std.proofs.Common.{rules, ◌≡◌, subst}
use Rattle.tsn_model.specs.Schedule.{IsValid}
use Rattle.tsn_model.proofs.Validity.{violation_refutes}
use Rattle.tsn_check.proofs.plan.judge_plan.Goals as goal

pub unreachable-requires : goal.unreachable-requires
unreachable-requires c =
    let copied : c.list.result.now ≡ c.in_ok-copy.copy.items = search rules in
    violation_refutes c.args.timing.now c.in_ok-copy.copy.items c.in_default-valid.field-0.0 c.in_default-valid.ensures.refused (subst (IsValid c.args.timing.now) copied c.in_ok-judge_schedule.ensures.valid)
