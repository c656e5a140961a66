use Rattle.std.proofs.Common.{◌+◌, subst, sym, arith}
use Rattle.tsn_timing.specs.Tables.{AreRight, IsTable}
use Rattle.tsn_timing.proofs.Tabling.{right_none, right_more}
use Rattle.tsn_timing.proofs.tables.tables_of.Goals as goal

pub loop-stream-init : goal.loop-stream-init
loop-stream-init c = grind (arith, right_none)

pub loop-stream-preserved : goal.loop-stream-preserved
loop-stream-preserved c = record {
  right = subst (AreRight (IsTable c.args.network.now) (c.loop-stream.stream + 1)) (sym c.in_ok-push.ensures.items)
      (right_more (IsTable c.args.network.now) c.loop-stream.stream c.loop-stream.tables.items _ c.loop-stream.invariant.right c.in_ok-table_of.ensures);
  end = c.loop-stream.invariant.end;
}

pub returns : goal.returns
returns c =
    subst (λ n. AreRight (IsTable c.args.network.now) n c.loop-stream.tables.items) (omega arith) c.loop-stream.invariant.right
