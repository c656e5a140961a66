use Rattle.std.proofs.Common.{arith}
use Rattle.tsn_replay.proofs.cycles.replay_rows.Goals as goal

pub replayed-requires-clause-short : goal.replayed-requires-clause-short
replayed-requires-clause-short c = omega arith
