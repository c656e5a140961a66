use Rattle.tsn_planner.proofs.planning.plan.Goals as goal

pub returns-clause-gathered : goal.returns-clause-gathered
returns-clause-gathered g c = (c.in_ok-answer.field-0.word, c.in_ok-answer.ensures.gathered)
