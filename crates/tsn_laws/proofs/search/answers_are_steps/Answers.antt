use Rattle.tsn_laws.proofs.Runs.{answers_take, answers_run}
use Rattle.tsn_laws.proofs.search.answers_are_steps.Goals as goal

pub returns : goal.returns
returns c = λ network limit. (answers_take network limit, λ state steps replies last. answers_run network limit steps replies state last)
