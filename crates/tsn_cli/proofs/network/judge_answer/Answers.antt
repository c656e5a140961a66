use Rattle.tsn_cli.specs.Unmade.{JudgeAnswers}
use Rattle.tsn_outcome.proofs.LineLemmas.{ends_as}
use Rattle.tsn_cli.proofs.network.judge_answer.Goals as goal

pub returns : goal.returns
returns g c = ends_as JudgeAnswers _ c.answer_of.result c.answer_of.ensures
