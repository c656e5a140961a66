use Rattle.tsn_replay.proofs.engine.Replay.renew_port.Goals as goal

pub port-port-requires-clause-setting : goal.port-port-requires-clause-setting
port-port-requires-clause-setting c = c.requires.setting

pub port-port-requires-clause-state : goal.port-port-requires-clause-state
port-port-requires-clause-state c = c.requires.state
