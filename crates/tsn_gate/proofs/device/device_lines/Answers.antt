use Rattle.std.proofs.Common.{ap}
use Rattle.tsn_gate.specs.Device.{device_line}
use Rattle.tsn_model.proofs.More.{written_more}
use Rattle.tsn_gate.proofs.device.device_lines.Goals as goal

pub loop-list-preserved : goal.loop-list-preserved
loop-list-preserved c =
    written_more (device_line c.args.problem.now.network c.args.limits.most c.args.limits.least) c.args.lists.now c.loop-list.list-index _ _ _ _
    c.loop-list-test.true c.loop-list.invariant c.in_ok-write_lines.ensures
    (ap (device_line c.args.problem.now.network c.args.limits.most c.args.limits.least) c.list-item.is)
