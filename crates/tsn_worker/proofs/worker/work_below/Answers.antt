use Rattle.std.proofs.Common.{sym, ◌∙◌, subst, arith}
use Rattle.std.proofs.lemmas.Grind.{elements}
use Rattle.tsn_walk.specs.Below.{StandsAt}
use Rattle.tsn_worker.proofs.worker.work_below.Goals as goal

pub loop-preserved : goal.loop-preserved
loop-preserved g c =
    let network = c.args.context.now.setting.now.tables.timing.now in
    let triples = c.args.context.now.setting.now.tables.conflicts.now.triples in
    let same = c.share_if_awaited.ensures in
    record {
      even = c.settle_next.ensures.even;
      number = c.settle_next.ensures.number ∙ c.loop.invariant.number;
      below = subst (λ way. StandsAt network triples c.share_if_awaited.new.below.from way) (sym same.0)
          (subst (λ path. StandsAt network triples path c.settle_next.new.below.descent) (sym same.1) (c.in-GoesOn.ensures.below tt));
    }

pub at-requires : goal.at-requires
at-requires c = grind (arith, elements) steps 2000000

pub settle_next-requires-clause-tables : goal.settle_next-requires-clause-tables
settle_next-requires-clause-tables c = grind (arith, elements) steps 2000000

pub settle_next-requires-clause-below : goal.settle_next-requires-clause-below
settle_next-requires-clause-below c = grind (arith, elements) steps 2000000

pub settle_next-requires-clause-most : goal.settle_next-requires-clause-most
settle_next-requires-clause-most c = grind (arith, elements) steps 2000000

pub settle_next-requires-clause-even : goal.settle_next-requires-clause-even
settle_next-requires-clause-even c = grind (arith, elements) steps 2000000

pub returns-in-Finished-clause-even : goal.returns-in-Finished-clause-even
returns-in-Finished-clause-even c = grind (arith, elements) steps 2000000

pub returns-in-Finished-clause-number : goal.returns-in-Finished-clause-number
returns-in-Finished-clause-number c = grind (arith, elements) steps 2000000

pub returns-clause-even : goal.returns-clause-even
returns-clause-even c = grind (arith, elements) steps 2000000

pub returns-clause-number : goal.returns-clause-number
returns-clause-number c = grind (arith, elements) steps 2000000
