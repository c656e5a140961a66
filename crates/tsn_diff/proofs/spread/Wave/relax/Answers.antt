use Rattle.std.proofs.Common.{◌≡◌, ◌<◌, ◌≤◌, Ok, pos, ap, ◌∙◌, ⊎_elim, arith}
use Rattle.std.proofs.lemmas.Bool.{cases_lt}
use Rattle.std.proofs.lemmas.List.{get_or_default}
use Rattle.std.proofs.lemmas.Grind.{common_steps}
use Rattle.tsn_diff.specs.declared.listing.Indexed.{Indexed}
use Rattle.tsn_diff.specs.Labels.{labelling_of}
use Rattle.tsn_diff.specs.Spread.{all_arcs, stage_of}
use Rattle.tsn_diff.specs.declared.spread.Stage.TheVariants.{Settled}
use Rattle.tsn_diff.proofs.Listings.{leaving_is}
use Rattle.tsn_diff.proofs.Waves.{GoesOn-same, GoesOn-then}
use Rattle.tsn_diff.proofs.Forests.{all_small}
use Rattle.tsn_diff.proofs.Relaxes.{indexed_among, among_indexed, met_still, MeetsFrom-leaving}
use Rattle.tsn_diff.proofs.spread.Wave.relax.Goals as goal

pub loop-indexed-init : goal.loop-indexed-init
loop-indexed-init g c = record {
  wave = c.requires.moves;
  goes_on = GoesOn-same (all_arcs g.base) (labelling_of c.args.labels.now) c.args.stages.now c.args.self.now.queue.items;
  settled = c.requires.settled;
  met = λ k d l. absurd (omega arith);
}

pub asked-requires-clause-arc : goal.asked-requires-clause-arc
asked-requires-clause-arc g c =
    let items = leaving_is _ c.args.listing.now g.base.arcs c.args.stream c.index-leaving.result.now _ c.requires.listed c.requires.stream_in c.deref-indexed-items.ensures.value c.index-leaving.ensures in
    among_indexed g.base (labelling_of c.loop-indexed.labels) c.loop-indexed.stages c.loop-indexed.self _ c.loop-indexed.invariant.wave (indexed_among g.base c.args.stream _ items c.loop-indexed.indexed-index _ c.loop-indexed-test.true).0

pub asked-requires-clause-small : goal.asked-requires-clause-small
asked-requires-clause-small g c = let w = c.loop-indexed.invariant.wave in all_small w.forest (rw w.noted.offsets w.among)

pub raise-requires : goal.raise-requires
raise-requires g c =
    let items = leaving_is _ c.args.listing.now g.base.arcs c.args.stream c.index-leaving.result.now _ c.requires.listed c.requires.stream_in c.deref-indexed-items.ensures.value c.index-leaving.ensures in
    record {
      moves = c.loop-indexed.invariant.wave;
      there = (indexed_among g.base c.args.stream _ items c.loop-indexed.indexed-index _ c.loop-indexed-test.true).0;
      asked = c.in-Some.ensures;
    }

pub returns-then-branch-clause-goes_on : goal.returns-then-branch-clause-goes_on
returns-then-branch-clause-goes_on g c =
    GoesOn-then _ _ _ _ _ _ _ _ _ _ c.loop-indexed.invariant.goes_on c.in_ok-raise.ensures.goes_on

pub returns-then-branch-clause-closing : goal.returns-then-branch-clause-closing
returns-then-branch-clause-closing g c =
    let items = leaving_is _ c.args.listing.now g.base.arcs c.args.stream c.index-leaving.result.now _ c.requires.listed c.requires.stream_in c.deref-indexed-items.ensures.value c.index-leaving.ensures in
    record {
      there = (indexed_among g.base c.args.stream _ items c.loop-indexed.indexed-index _ c.loop-indexed-test.true).0;
      closes = c.in_ok-raise.ensures.closes (ap Ok c.if-branch.true);
    }

pub loop-indexed-preserved : goal.loop-indexed-preserved
loop-indexed-preserved g c =
    let items = leaving_is _ c.args.listing.now g.base.arcs c.args.stream c.index-leaving.result.now _ c.requires.listed c.requires.stream_in c.deref-indexed-items.ensures.value c.index-leaving.ensures in
    let k = c.loop-indexed.indexed-index in
    let none : Indexed = record { index = 0; arc = record { from = 0; to = 0; weight = pos 0 } } in
    let here = indexed_among g.base c.args.stream _ items k none c.loop-indexed-test.true in
    let old = labelling_of c.loop-indexed.labels in
    let new = labelling_of c.raise.new.labels in
    let goes_on = c.in_ok-raise.ensures.goes_on in
    let settled : stage_of c.raise.new.stages c.args.stream ≡ Settled = (rw here.1 at c.in_ok-raise.ensures.first) ∙ c.loop-indexed.invariant.settled in
    record {
      wave = c.in_ok-raise.ensures.wave;
      goes_on = GoesOn-then _ _ _ _ _ _ _ _ _ _ c.loop-indexed.invariant.goes_on goes_on;
      settled = settled;
      met = λ i d l. ⊎_elim
          (λ (before : i < k). met_still g.base old new c.loop-indexed.stages c.raise.new.stages c.loop-indexed.self.queue.items c.raise.new.self.queue.items c.args.stream _ goes_on settled (indexed_among g.base c.args.stream _ items i d (omega (arith, c.loop-indexed-test.true))) (c.loop-indexed.invariant.met i d before))
          (λ (at : k ≤ i).
          let same : i ≡ k = omega arith in
          rw (same, get_or_default c.deref-indexed-items.result.now k d none c.loop-indexed-test.true) (c.in_ok-raise.ensures.met (ap Ok c.if-branch.false)))
          (cases_lt i k);
    }

pub returns-clause-met : goal.returns-clause-met
returns-clause-met g c =
    let items = leaving_is _ c.args.listing.now g.base.arcs c.args.stream c.index-leaving.result.now _ c.requires.listed c.requires.stream_in c.deref-indexed-items.ensures.value c.index-leaving.ensures in
    λ e. MeetsFrom-leaving g.base (labelling_of c.loop-indexed.labels) c.loop-indexed.stages c.loop-indexed.self c.args.stream c.loop-indexed.invariant.wave c.loop-indexed.invariant.settled (rw (← items) (λ k d l. c.loop-indexed.invariant.met k d (omega (arith, c.loop-indexed-test.false))))

pub returns-clause-noted : goal.returns-clause-noted
returns-clause-noted g c = grind (arith, common_steps) steps 2000000

pub returns-clause-wave : goal.returns-clause-wave
returns-clause-wave g c = grind (arith, common_steps) steps 2000000

pub returns-clause-goes_on : goal.returns-clause-goes_on
returns-clause-goes_on g c = grind (arith, common_steps) steps 2000000

pub returns-clause-closing : goal.returns-clause-closing
returns-clause-closing g c = grind (arith, common_steps) steps 2000000
