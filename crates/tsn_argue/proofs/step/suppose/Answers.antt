use Rattle.tsn_argue.proofs.StepParts.{none_learned, supposed_fact, supposed_more}
use Rattle.tsn_argue.proofs.step.suppose.Goals as goal

pub loop-fact-init : goal.loop-fact-init
loop-fact-init c = none_learned c.args.view.now c.requires.sound

pub learn-requires-clause-fact : goal.learn-requires-clause-fact
learn-requires-clause-fact c =
    supposed_fact c.args.view.now.timing.now c.loop-fact.view.timing.now c.args.clause.now c.loop-fact.fact-index _ _ c.loop-fact-test.true c.requires.facts
    c.loop-fact.invariant.network c.opposite_of.ensures

pub loop-fact-preserved : goal.loop-fact-preserved
loop-fact-preserved c =
    supposed_more c.args.view.now c.loop-fact.view c.learn.new.self c.args.clause.now c.loop-fact.fact-index _ _ c.loop-fact-test.true c.opposite_of.ensures
    c.loop-fact.invariant c.in_ok-learn.ensures
