use Rattle.std.proofs.lemmas.Result.{IfOk-weaker, err_from_is_err_and}
use Rattle.std.proofs.Common.{arith}
use Rattle.std.proofs.lemmas.Grind.{common_steps}
use Rattle.tsn_branch.proofs.look_with.Goals as goal

pub judge-requires-clause-some_path : goal.judge-requires-clause-some_path
judge-requires-clause-some_path c = (c.args.node.now, c.in_ok-outcome.ensures)

pub returns-clause-first_case : goal.returns-clause-first_case
returns-clause-first_case c = IfOk-weaker c.judge.result _ _ (λ found is. is c.args.node.now c.in_ok-outcome.ensures) c.judge.ensures.look

pub returns-clause-least : goal.returns-clause-least
returns-clause-least c = IfOk-weaker c.judge.result _ _ (λ found is. is c.args.node.now c.in_ok-outcome.ensures) c.judge.ensures.least

pub least_at-requires-clause-conflicts : goal.least_at-requires-clause-conflicts
least_at-requires-clause-conflicts c = grind (arith, common_steps) steps 2000000

pub returns-in_err-outcome-clause-first_case : goal.returns-in_err-outcome-clause-first_case
returns-in_err-outcome-clause-first_case c =
    let p = err_from_is_err_and c.from_residual.result c.from_residual.ensures.1 in
    rw p.1 tt

pub returns-in_err-outcome-clause-least : goal.returns-in_err-outcome-clause-least
returns-in_err-outcome-clause-least c =
    let p = err_from_is_err_and c.from_residual.result c.from_residual.ensures.1 in
    rw p.1 tt
