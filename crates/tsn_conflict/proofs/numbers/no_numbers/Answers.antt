use Rattle.tsn_conflict.proofs.ByStream.{none_more}
use Rattle.tsn_conflict.proofs.numbers.no_numbers.Goals as goal

pub loop-stream-preserved : goal.loop-stream-preserved
loop-stream-preserved c = none_more c.loop-stream.lists.items _ _ c.loop-stream._stream c.loop-stream.invariant c.in_ok-push.ensures.items c.new.ensures.items
