use Rattle.tsn_check.proofs.Firsts.{one_why}
use Rattle.tsn_check.proofs.Verdicts.{why_refutes}
use Rattle.tsn_check.proofs.laws.first_reasons_refute.Goals as goal

pub returns : goal.returns
returns c network plan cert fault is = (why_refutes network plan cert fault is, λ other another. one_why network plan cert fault other is another)
