use Rattle.std.proofs.Common.{[], ◌∷◌, is_some}
use Rattle.tsn_outcome.proofs.LineLemmas.{said_over}
use Rattle.tsn_outcome.proofs.SaidLemmas.{known_stop, stop_known}
use Rattle.tsn_cli.specs.Plan.{PlanAnswers}
use Rattle.tsn_cli.proofs.PlanLemmas.{stop_over}
use Rattle.tsn_runs.proofs.plan.plan_run.Goals as goal

pub returns-clause-runs : goal.returns-clause-runs
returns-clause-runs g c =
    rw c.status.ensures
    (said_over (PlanAnswers c.args.effort (is_some c.args.cert.now)) _ (_ ∷ _ ∷ []) c.plan_answer-answer.result _ _ c.plan_answer-answer.ensures.runs
    c.end_run-outcome.ensures.written)

pub returns-clause-stopped : goal.returns-clause-stopped
returns-clause-stopped g c =
    rw (c.status.ensures, c.stop.ensures) (stop_known c.end_run-outcome.result, known_stop c.end_run-outcome.result)

pub returns-clause-stop : goal.returns-clause-stop
returns-clause-stop g c =
    rw c.stop.ensures
    (stop_over c.args.effort.limit _ (_ ∷ _ ∷ []) c.plan_answer-answer.result _ c.end_run-outcome.result (PlanAnswers c.args.effort (is_some c.args.cert.now)) _
    (returns-clause-runs g c) c.end_run-outcome.ensures.written c.end_run-outcome.ensures.outcome c.plan_answer-answer.ensures.stop)
