use Rattle.tsn_argue.proofs.Refuted.{why_refuted, one_why}
use Rattle.tsn_argue.proofs.laws.first_reasons_refute.Goals as goal

pub returns : goal.returns
returns c network plan argument fault is = (why_refuted network plan argument fault is, λ other another. one_why network plan argument fault other is another)
