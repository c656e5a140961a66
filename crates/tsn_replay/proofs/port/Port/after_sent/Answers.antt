use Rattle.tsn_replay.proofs.port.Port.after_sent.Goals as goal

pub scheduled_on-scheduled-requires-clause-first : goal.scheduled_on-scheduled-requires-clause-first
scheduled_on-scheduled-requires-clause-first c = c.requires.head
