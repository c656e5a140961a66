use Rattle.tsn_command.proofs.command.run.Goals as goal

pub returns-clause-runs : goal.returns-clause-runs
returns-clause-runs g c = (
  c.output-output.result,
  (
    c.output-output.ensures.opened,
    (c.output-output.ensures.failures, (c.run_to-status.result.output, (c.close_output.ensures, c.run_to-status.ensures))),
  ),
)

pub returns-clause-planned : goal.returns-clause-planned
returns-clause-planned g c = c.plan_run_is_first.ensures c.args.words _ _ c.run_to-status.ensures
