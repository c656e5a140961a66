use Rattle.std.proofs.Common.{◌∙◌}
use Rattle.tsn_net.specs.Problem.{offset_at}
use Rattle.tsn_net.proofs.ProblemLemmas.{values-next}
use Rattle.tsn_net.proofs.problem.read_offsets.Goals as goal

pub loop-stream-preserved : goal.loop-stream-preserved
loop-stream-preserved c =
    c.in_ok-push.ensures.items
    ∙ values-next offset_at c.args.streams.now c.loop-stream.stream-index c.stream-item.result c.loop-stream.offsets.items c.offset_at.result
    c.loop-stream-test.true c.stream-item.is c.loop-stream.invariant c.offset_at.ensures
