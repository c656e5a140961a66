use Rattle.std.proofs.Common.{◌∙◌}
use Rattle.tsn_cli.proofs.PlanLemmas.{found_comes, found_knows, many_comes, none_open, wanted_by}
use Rattle.tsn_command.proofs.plan.found.Goals as goal

pub output_for-requires : goal.output_for-requires
output_for-requires g c =
    none_open c.in-Taken.problem.network c.args.effort.limit c.in_ok-found-in-Taken.field-0.found c.in_ok-found-in-Taken.ensures.found

pub returns-in_ok-output_for-in-Taken-clause-comes : goal.returns-in_ok-output_for-in-Taken-clause-comes
returns-in_ok-output_for-in-Taken-clause-comes g c =
    let network = rw c.in-Taken.is at c.in_ok-problem.ensures in
    let left = c.in_ok-found-in-Taken in
    let e = c.in_ok-output_for-in-Taken.ensures in
    found_comes c.args.effort c.args.wanted _ c.in_ok-output_for-in-Taken.field-0 c.in-Taken.problem network left.field-0.found left.ensures.found e.outcome e.plan
    e.cert left.ensures.method

pub returns-in_ok-output_for-in-Taken-clause-knows : goal.returns-in_ok-output_for-in-Taken-clause-knows
returns-in_ok-output_for-in-Taken-clause-knows g c =
    let network = rw c.in-Taken.is at c.in_ok-problem.ensures in
    let left = c.in_ok-found-in-Taken in
    let e = c.in_ok-output_for-in-Taken.ensures in
    found_knows c.args.effort c.args.wanted _ c.in_ok-output_for-in-Taken.field-0 c.in-Taken.problem network left.field-0.found left.ensures.found e.outcome e.plan
    e.cert

pub returns-in_ok-output_for-in-Taken-clause-wanted : goal.returns-in_ok-output_for-in-Taken-clause-wanted
returns-in_ok-output_for-in-Taken-clause-wanted g c =
    wanted_by c.args.wanted c.in_ok-found-in-Taken.field-0.found c.in_ok-output_for-in-Taken.field-0.second c.in_ok-output_for-in-Taken.ensures.cert

pub returns-then-is_too_many-clause-comes : goal.returns-then-is_too_many-clause-comes
returns-then-is_too_many-clause-comes g c =
    let network = rw c.in-Taken.is at c.in_ok-problem.ensures in
    let many = rw c.if-is_too_many.true at c.is_too_many.ensures in
    let e = c.alone.ensures in
    many_comes c.args.effort c.args.wanted _ c.alone.result c.in-Taken.problem network many.0 many.1
    (e.answer ∙ c.in_ok-answer-in-Taken.ensures) e.first e.second
