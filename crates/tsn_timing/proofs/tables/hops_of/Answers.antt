use Rattle.std.proofs.Common.{◌+◌, subst, sym, arith}
use Rattle.tsn_timing.specs.Tables.{AreRight, IsHop}
use Rattle.tsn_timing.proofs.Tabling.{right_none, right_more}
use Rattle.tsn_timing.proofs.tables.hops_of.Goals as goal

pub loop-hop-init : goal.loop-hop-init
loop-hop-init c = grind (arith, right_none)

pub loop-hop-preserved : goal.loop-hop-preserved
loop-hop-preserved c = record {
  right = subst (AreRight (IsHop c.args.network.now c.args.stream) (c.loop-hop.hop + 1)) (sym c.in_ok-push.ensures.items)
      (right_more (IsHop c.args.network.now c.args.stream) c.loop-hop.hop c.loop-hop.hops.items _ c.loop-hop.invariant.right (grind arith));
  end = c.loop-hop.invariant.end;
}

pub returns : goal.returns
returns c =
    subst (λ n. AreRight (IsHop c.args.network.now c.args.stream) n c.loop-hop.hops.items) (omega arith) c.loop-hop.invariant.right
