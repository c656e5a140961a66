use Rattle.std.proofs.Common.{sym, ◌∙◌, length-set, arith}
use Rattle.std.proofs.lemmas.Int.{ints}
use Rattle.tsn_diff.specs.Labels.{labelling_of}
use Rattle.tsn_diff.proofs.Forests.{all_small, arc_among, HasSteps-from_forest, Raises, IsForest-raised, KeepsRaised-raised, sum-raised}
use Rattle.tsn_diff.proofs.labels.Labels.correct.Goals as goal

pub asked-requires-clause-small : goal.asked-requires-clause-small
asked-requires-clause-small c = all_small c.requires.forest c.requires.arcs

pub passes-requires-clause-steps : goal.passes-requires-clause-steps
passes-requires-clause-steps c = HasSteps-from_forest c.requires.forest

pub returns-then-passes-clause-progress : goal.returns-then-passes-clause-progress
returns-then-passes-clause-progress c =
    let asked = c.in-Some.ensures in
    record {
      index_in = c.requires.index;
      unmet = omega (arith, ints, asked.value, asked.higher);
      passes = sym c.passes.ensures ∙ c.if-passes.true;
    }

pub returns : goal.returns
returns c =
    let arcs = c.args.arcs.now in
    let now = labelling_of c.args.self.now in
    let raises : Raises arcs now c.args.index c.in-Some.offset = record {
      forest = c.requires.forest;
      among = arc_among arcs _ c.args.index c.requires.arcs c.requires.index;
      index_in = c.requires.index;
      value_is = c.in-Some.ensures.value;
      higher = c.in-Some.ensures.higher;
      aside = sym c.passes.ensures ∙ c.if-passes.false;
    } in
    rw (c.raise.ensures.offsets, c.raise.ensures.last)
    (record {
      count = length-set c.args.self.now.offsets.items _ _;
      forest = IsForest-raised arcs now c.args.index _ raises;
      raised = KeepsRaised-raised arcs now c.args.index _ raises;
      progress = sum-raised arcs now c.args.index _ raises;
    })
