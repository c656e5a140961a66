use Rattle.std.proofs.Common.{◌∙◌, arith}
use Rattle.std.proofs.lemmas.Grind.{elements}
use Rattle.tsn_worker.proofs.start.dive.Goals as goal

pub loop-preserved : goal.loop-preserved
loop-preserved g c = record {
  even = c.settle_next.ensures.even;
  number = c.settle_next.ensures.number ∙ c.loop.invariant.number;
  below = c.in_ok-choose_side.ensures;
}

pub choose_side-requires : goal.choose_side-requires
choose_side-requires g c = record { below = c.in-GoesOn.ensures.below tt }

pub root-requires : goal.root-requires
root-requires c = grind (arith, elements) steps 2000000

pub settle_next-requires-clause-tables : goal.settle_next-requires-clause-tables
settle_next-requires-clause-tables c = grind (arith, elements) steps 2000000

pub settle_next-requires-clause-below : goal.settle_next-requires-clause-below
settle_next-requires-clause-below c = grind (arith, elements) steps 2000000

pub settle_next-requires-clause-most : goal.settle_next-requires-clause-most
settle_next-requires-clause-most c = grind (arith, elements) steps 2000000

pub settle_next-requires-clause-even : goal.settle_next-requires-clause-even
settle_next-requires-clause-even c = grind (arith, elements) steps 2000000

pub returns-clause-even : goal.returns-clause-even
returns-clause-even c = grind (arith, elements) steps 2000000

pub returns-clause-number : goal.returns-clause-number
returns-clause-number c = grind (arith, elements) steps 2000000
