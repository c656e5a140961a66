use Rattle.std.proofs.Common.{rules}
use Rattle.tsn_replay.specs.Queue.{passage_of}
use Rattle.tsn_replay.proofs.starts.Starts.start.Goals as goal

pub returns : goal.returns
unfolding passage_of
returns c = search rules
