use Rattle.std.proofs.Common.{◌≡◌, Ok, length, ap, ◌∙◌, arith}
use Rattle.std.proofs.lemmas.Grind.{common_steps, elements}
use Rattle.tsn_diff.specs.declared.spread.Wave.{Wave}
use Rattle.tsn_diff.proofs.Fixes.{AreCalm-replicate}
use Rattle.tsn_diff.proofs.Forests.{all_small, HasSteps-from_forest, offsets_small}
use Rattle.tsn_diff.proofs.Turns.{start_among, stream_in, IsWide-start, IsWave-start, IsIndexed-new, seen_first, IsTurn-settled, seen_then, queued_then, turn_smaller, IsWide-end}
use Rattle.tsn_diff.proofs.spread.Wave.spread.Goals as goal

pub asked-requires-clause-small : goal.asked-requires-clause-small
asked-requires-clause-small g c =
    let forest = rw c.requires.labels_are at c.requires.forest in
    all_small forest (start_among g.base _ c.args.self.now c.args.listing.now c.args.arc c.requires)

pub returns-in_default-clause-wide : goal.returns-in_default-clause-wide
returns-in_default-clause-wide g c = λ e. IsWide-start g.base _ c.args.self.now c.args.listing.now c.args.arc c.requires c.in_default.ensures

pub fix_chain-requires-clause-steps : goal.fix_chain-requires-clause-steps
fix_chain-requires-clause-steps g c = rw (← c.requires.labels_are) (HasSteps-from_forest c.requires.forest)

pub fix_chain-requires-clause-chains : goal.fix_chain-requires-clause-chains
fix_chain-requires-clause-chains g c = (rw c.requires.labels_are at c.requires.forest).rooted

pub fix_chain-requires-clause-stream : goal.fix_chain-requires-clause-stream
fix_chain-requires-clause-stream g c = stream_in g.base _ c.args.self.now c.args.listing.now c.args.arc c.requires

pub fix_chain-requires-clause-room : goal.fix_chain-requires-clause-room
fix_chain-requires-clause-room g c =
    let forest = rw c.requires.labels_are at c.requires.forest in
    omega (arith, forest.count, forest.few)

pub fix_chain-requires-clause-calm : goal.fix_chain-requires-clause-calm
fix_chain-requires-clause-calm g c = AreCalm-replicate 128

pub raise-requires : goal.raise-requires
raise-requires g c =
    let wave : Wave = record { trail = c.args.self.now.trail; queue = c.clear.new.self } in
    record {
      moves = IsWave-start g.base _ wave c.args.listing.now c.args.arc c.requires c.fix_chain.new.stages (omega (arith, c.requires.forest.few, c.fix_chain.auto.stages)) c.fix_chain.ensures.fixed c.fix_chain.ensures.others c.clear.ensures.items;
      there = IsIndexed-new g.base _ wave c.args.listing.now c.args.arc c.requires c.len.result (c.len.ensures ∙ c.args.listing.now.marks.ok.0);
      asked = c.in-Some.ensures;
    }

pub loop-turn-init : goal.loop-turn-init
loop-turn-init g c =
    let wave : Wave = record { trail = c.args.self.now.trail; queue = c.clear.new.self } in
    let moves = IsWave-start g.base _ wave c.args.listing.now c.args.arc c.requires c.fix_chain.new.stages
    (omega (arith, c.requires.forest.few, c.fix_chain.auto.stages)) c.fix_chain.ensures.fixed c.fix_chain.ensures.others c.clear.ensures.items in
    let goes_on = c.in_ok-raise.ensures.goes_on in
    record {
      wave = c.in_ok-raise.ensures.wave;
      seen = seen_first g.base _ _ c.fix_chain.new.stages c.raise.new.stages wave c.raise.new.self.queue.items moves c.requires.labels_are goes_on (rw c.requires.arc_is (c.in_ok-raise.ensures.met (ap Ok c.if-branch.false)));
      queued = goes_on.queued 0 (omega arith) (λ i waits. absurd (rw waits at (c.fix_chain.ensures.others i) tt));
      turn_in = omega arith;
    }

pub relax-requires : goal.relax-requires
relax-requires g c =
    let w = c.loop-turn.invariant.wave in
    IsTurn-settled g.base _ c.loop-turn.stages c.loop-turn.self c.loop-turn.turn c.index-stream.result.now w (omega (arith, c.loop-turn-test.true, c.len-in-loop-turn.ensures, c.loop-turn.self.queue.ok.0)) c.index-stream.ensures c.args.listing.now c.requires.listed

pub loop-turn-smaller : goal.loop-turn-smaller
loop-turn-smaller g c =
    let w = c.loop-turn.invariant.wave in
    let v = c.in_ok-closing.ensures.wave in
    let same : length c.relax.new.labels.offsets.items ≡ length c.loop-turn.labels.offsets.items = omega (arith, w.noted.offsets, v.noted.offsets) in
    turn_smaller g.base _ c.loop-turn.stages c.loop-turn.self c.loop-turn.turn c.index-stream.result.now w (omega (arith, c.loop-turn-test.true, c.len-in-loop-turn.ensures, c.loop-turn.self.queue.ok.0)) c.index-stream.ensures _ c.relax.new.stages c.relax.new.self.queue.items c.in_ok-closing.ensures.goes_on same (offsets_small v.forest (rw v.noted.offsets v.among))

pub loop-turn-preserved : goal.loop-turn-preserved
loop-turn-preserved g c =
    let w = c.loop-turn.invariant.wave in
    let g' = c.in_ok-closing.ensures.goes_on in
    record {
      wave = c.in_ok-closing.ensures.wave;
      seen = seen_then g.base _ c.loop-turn.stages c.loop-turn.self c.loop-turn.turn c.index-stream.result.now w (omega (arith, c.loop-turn-test.true, c.len-in-loop-turn.ensures, c.loop-turn.self.queue.ok.0)) c.index-stream.ensures _ c.relax.new.stages c.relax.new.self.queue.items g' (c.in_ok-closing.ensures.met (ap Ok c.in-None.is)) c.loop-turn.invariant.seen;
      queued = queued_then g.base _ c.loop-turn.stages c.loop-turn.self c.loop-turn.turn c.index-stream.result.now w (omega (arith, c.loop-turn-test.true, c.len-in-loop-turn.ensures, c.loop-turn.self.queue.ok.0)) c.index-stream.ensures _ c.relax.new.stages c.relax.new.self.queue.items g' c.loop-turn.invariant.queued;
      turn_in = omega (arith, g'.more, c.loop-turn-test.true, c.len-in-loop-turn.ensures, c.loop-turn.self.queue.ok.0);
    }

pub returns-clause-wide : goal.returns-clause-wide
returns-clause-wide g c = λ e. IsWide-end g.base _ c.loop-turn.stages c.loop-turn.self c.loop-turn.turn c.loop-turn.invariant.wave (omega (arith, c.loop-turn-test.false, c.len-in-loop-turn.ensures, c.loop-turn.self.queue.ok.0)) c.loop-turn.invariant.queued c.loop-turn.invariant.seen

pub returns-in_default-clause-noted : goal.returns-in_default-clause-noted
returns-in_default-clause-noted g c = grind (arith, common_steps) steps 2000000

pub asked-requires-clause-arc : goal.asked-requires-clause-arc
asked-requires-clause-arc g c = grind (arith, elements) steps 2000000
