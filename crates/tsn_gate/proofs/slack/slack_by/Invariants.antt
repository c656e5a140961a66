use Rattle.tsn_gate.proofs.slack.slack_by.Given as goal

abbrev pub ghost-tolerance : goal.ghost-tolerance
ghost-tolerance g a = g.schedule
