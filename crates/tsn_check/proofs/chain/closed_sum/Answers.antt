use Rattle.std.proofs.Common.{arith, ◌-◌, pos}
use Rattle.std.proofs.lemmas.Grind.{common_steps}
use Rattle.tsn_model.specs.declared.Side.TheVariants.{Left}
use Rattle.tsn_check.specs.declared.path.Turn.{Turn}
use Rattle.tsn_check.proofs.Chains.{arc_at-arcs, closed_parts}
use Rattle.tsn_check.proofs.chain.closed_sum.Goals as goal

blank : Turn
blank = record {
  decision = record { triple = record { left = 0; right = 0; link = 0; lag = pos 0 }; side = Left };
  arc = record { from = 0; to = 0; weight = pos 0 };
}

pub returns-in_err-walk : goal.returns-in_err-walk
unfolding blank
returns-in_err-walk c = grind (arith, blank, arc_at-arcs, closed_parts)

pub returns-else-walk-end : goal.returns-else-walk-end
unfolding blank
returns-else-walk-end c closed = grind (arith, blank, arc_at-arcs, closed_parts)

pub returns-then-last-path : goal.returns-then-last-path
returns-then-last-path c = grind (arith, common_steps) steps 2000000
