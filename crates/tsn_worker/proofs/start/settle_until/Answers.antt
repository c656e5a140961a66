use Rattle.std.proofs.Common.{◌∙◌, arith}
use Rattle.std.proofs.lemmas.Grind.{elements}
use Rattle.tsn_worker.proofs.start.settle_until.Goals as goal

pub loop-preserved : goal.loop-preserved
loop-preserved g c = record {
  even = c.settle_next.ensures.even;
  number = c.settle_next.ensures.number ∙ c.loop.invariant.number;
  below = c.in-GoesOn.ensures.below tt;
}

pub root-requires : goal.root-requires
root-requires c = grind (arith, elements) steps 2000000

pub returns-clause-even : goal.returns-clause-even
returns-clause-even c = grind (arith, elements) steps 2000000

pub returns-clause-number : goal.returns-clause-number
returns-clause-number c = grind (arith, elements) steps 2000000
