use Rattle.std.proofs.Common.{sym, subst}
use Rattle.serde_json.specs.View.{view}
use Rattle.tsn_cert.specs.Json.{value_of}
use Rattle.tsn_cert.specs.Plan.{plan_of, plan_fits}
use Rattle.tsn_cert.specs.Told.{Tells, code_of}
use Rattle.tsn_codec.specs.Matter.{IsPlanMisfit, IsPlanExcess}
use Rattle.tsn_codec.proofs.JsonLemmas.{answer_fault, answer_read}
use Rattle.tsn_codec.proofs.ToldLemmas.{large_told, misfit_told}
use Rattle.tsn_codec.proofs.plan.plan_or_refuse.Goals as goal

pub returns-in-Ok-clause-plan : goal.returns-in-Ok-clause-plan
returns-in-Ok-clause-plan c =
    subst (Tells (λ plan. plan) c.limited.result)
    (sym (answer_read plan_of plan_fits (value_of c.args.bytes.now) (view c.in_ok-value.value) c.in-Ok.plan c.in_ok-value.ensures.value c.in-Ok.ensures.plan))
    c.limited.ensures.limits

pub returns-in-Ok-clause-told : goal.returns-in-Ok-clause-told
returns-in-Ok-clause-told c =
    large_told plan_of IsPlanMisfit IsPlanExcess c.args.bytes.now (view c.in_ok-value.value) c.in-Ok.plan c.limited.result c.in_ok-value.ensures.value
    c.in-Ok.ensures.plan c.limited.ensures.told

pub returns-in-Err-clause-plan : goal.returns-in-Err-clause-plan
returns-in-Err-clause-plan c =
    answer_fault plan_of plan_fits (value_of c.args.bytes.now) (view c.in_ok-value.value) (code_of c.in-Err.refused) c.in_ok-value.ensures.value
    c.in-Err.ensures.plan

pub returns-in-Err-clause-told : goal.returns-in-Err-clause-told
returns-in-Err-clause-told c =
    misfit_told plan_of IsPlanMisfit IsPlanExcess c.args.bytes.now (view c.in_ok-value.value) c.in-Err.refused c.in_ok-value.ensures.value c.in-Err.ensures.told
