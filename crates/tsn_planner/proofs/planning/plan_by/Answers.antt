use Rattle.tsn_answer.proofs.Deciding.{none_open, not_given_up}
use Rattle.tsn_planner.proofs.planning.plan_by.Goals as goal

pub answer_of-requires-clause-answered : goal.answer_of-requires-clause-answered
answer_of-requires-clause-answered g c =
    not_given_up c.args.problem.now.network c.args.effort.limit c.in_ok-found.field-0.found c.requires.few_streams c.in_ok-found.ensures.found

pub answer_of-requires-clause-open : goal.answer_of-requires-clause-open
answer_of-requires-clause-open g c = none_open c.args.problem.now.network c.args.effort.limit c.in_ok-found.field-0.found c.in_ok-found.ensures.found

pub returns-in-Ok-clause-optimum : goal.returns-in-Ok-clause-optimum
returns-in-Ok-clause-optimum g c = c.in-Ok.ensures.optimum c.args.problem.now.network c.args.effort.limit c.in_ok-found.ensures.found

pub returns-in-Ok-clause-shown : goal.returns-in-Ok-clause-shown
returns-in-Ok-clause-shown g c = c.in-Ok.ensures.shown c.args.problem.now.network c.args.effort.limit c.in_ok-found.ensures.found

pub returns-in-Ok-clause-read_again : goal.returns-in-Ok-clause-read_again
returns-in-Ok-clause-read_again g c = c.in-Ok.ensures.read_again c.args.problem.now.network c.args.effort.limit c.in_ok-found.ensures.found

pub returns-in-Ok-clause-method : goal.returns-in-Ok-clause-method
returns-in-Ok-clause-method g c = c.in-Ok.ensures.method c.args.effort (c.in_ok-found.ensures.method c.requires.few_streams)
