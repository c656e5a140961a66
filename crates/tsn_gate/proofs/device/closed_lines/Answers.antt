use Rattle.std.proofs.Common.{ap}
use Rattle.tsn_gate.specs.Device.{closed_text}
use Rattle.tsn_model.proofs.More.{written_more}
use Rattle.tsn_gate.proofs.device.closed_lines.Goals as goal

pub loop-list-preserved : goal.loop-list-preserved
loop-list-preserved c =
    written_more closed_text c.args.lists.now c.loop-list.list-index _ _ _ _ c.loop-list-test.true c.loop-list.invariant c.in_ok-write_closed.ensures
    (ap closed_text c.list-item.is)
