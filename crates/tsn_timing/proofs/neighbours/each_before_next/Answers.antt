use Rattle.std.proofs.Common.{◌-◌, arith}
use Rattle.tsn_timing.proofs.Neighbouring.{read_before, one_more_follows}
use Rattle.tsn_timing.proofs.neighbours.each_before_next.Goals as goal

pub loop-index-preserved : goal.loop-index-preserved
loop-index-preserved c =
    let n = c.loop-index.index in
    one_more_follows c.args.slots.now (n - 1) n (omega arith) (omega arith) c.requires
    (read_before c.args.slots.now (n - 1) n _ _ (omega arith) (omega arith) c.if-slots-index.false) c.loop-index.invariant
