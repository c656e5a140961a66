use Rattle.std.proofs.Common.{ap, ◌∙◌, Some}
use Rattle.serde_json.specs.Written.{has_float}
use Rattle.tsn_cert.specs.Json.{file_text}
use Rattle.tsn_codec.proofs.PlanLemmas.{plan_written, plan_in-printed}
use Rattle.tsn_codec.proofs.plan.plan_to_json.Goals as goal

pub returns-clause-text : goal.returns-clause-text
returns-clause-text c =
    c.in_ok-file_text.ensures.text (ap has_float c.in_ok-value.ensures ∙ (plan_written c.args.plan.now).no_float)
    ∙ ap file_text c.in_ok-value.ensures

pub returns-clause-reads_back : goal.returns-clause-reads_back
returns-clause-reads_back c fits =
    let read = c.in_ok-file_text.ensures.reads_back (rw c.in_ok-value.ensures (plan_written c.args.plan.now).shallow) ∙ ap Some c.in_ok-value.ensures in
    plan_in-printed _ c.args.plan.now read fits
