use Rattle.tsn_laws.proofs.Runs.{one_answer}
use Rattle.tsn_laws.proofs.search.answers_are_one.Goals as goal

pub returns : goal.returns
returns c = one_answer
