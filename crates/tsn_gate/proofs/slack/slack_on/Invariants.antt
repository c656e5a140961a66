use Rattle.tsn_gate.proofs.slack.slack_on.Given as goal

abbrev pub ghost-slack_by : goal.ghost-slack_by
ghost-slack_by a = a.offsets.now
