use Rattle.tsn_check.proofs.Firsts.{one_first_fault}
use Rattle.tsn_check.proofs.Verdicts.{first_fault_refutes}
use Rattle.tsn_check.proofs.laws.first_faults_refute.Goals as goal

pub returns : goal.returns
returns c = λ network plan cert fault is. (first_fault_refutes network plan cert fault is, λ other another. one_first_fault network plan cert fault other is another)
