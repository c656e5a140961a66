use Rattle.std.proofs.Common.{is_some}
use Rattle.tsn_outcome.specs.Said.{stop_of}
use Rattle.tsn_cli.specs.Plan.{PlanAnswers, PlanStops}
use Rattle.tsn_cli.specs.RunOutput.{IsPrinted, written_bytes}
use Rattle.tsn_cli.proofs.EndLemmas.{fault_ends, none_of_fault, value_told}
use Rattle.tsn_cli.proofs.PlanLemmas.{no_stop, plan_ends, plan_whole}
use Rattle.tsn_command.proofs.plan.plan_answer.Goals as goal

pub returns-in-Ok-clause-runs : goal.returns-in-Ok-clause-runs
returns-in-Ok-clause-runs g c =
    plan_ends (PlanAnswers c.args.effort (is_some c.args.cert.now)) _ _ c.in-Ok.output _ (rw c.is_some-wanted.ensures at c.in-Ok.ensures.comes)
    c.write_plan.ensures.written

pub returns-in-Ok-clause-stop : goal.returns-in-Ok-clause-stop
returns-in-Ok-clause-stop g c =
    value_told stop_of (PlanStops c.args.effort.limit) no_stop written_bytes IsPrinted _ _ c.in-Ok.output c.write_plan.result
    (PlanAnswers c.args.effort (is_some c.args.cert.now)) (returns-in-Ok-clause-runs g c) c.in-Ok.ensures.knows c.write_plan.ensures.written
    c.write_plan.ensures.outcome (plan_whole c.in-Ok.output)

pub returns-in-Err-clause-runs : goal.returns-in-Err-clause-runs
returns-in-Err-clause-runs g c =
    fault_ends written_bytes _ _ _ _ (PlanAnswers c.args.effort (is_some c.args.cert.now)) _ c.in-Err.fault (rw c.is_some-wanted.ensures at c.in-Err.ensures.comes)

pub returns-in-Err-clause-stop : goal.returns-in-Err-clause-stop
returns-in-Err-clause-stop g c = none_of_fault stop_of (PlanStops c.args.effort.limit) no_stop _ c.in-Err.fault
