use Rattle.std.proofs.lemmas.Result.{IfOk-weaker}
use Rattle.tsn_answer.proofs.Deciding.{found_optimum}
use Rattle.tsn_worker.proofs.planning.search_by.Goals as goal

pub returns-clause-optimum : goal.returns-clause-optimum
returns-clause-optimum g c =
    IfOk-weaker c.search_few.result _ _ (λ searched found. found_optimum c.args.problem.now.network c.args.effort.limit searched.found found)
    c.search_few.ensures.found

pub returns-then-streams-gt-FEW_STREAMS-clause-gathered : goal.returns-then-streams-gt-FEW_STREAMS-clause-gathered
returns-then-streams-gt-FEW_STREAMS-clause-gathered g c = rw c.alone.ensures (c.in_ok-found.ensures.team c.args.effort.workers)
