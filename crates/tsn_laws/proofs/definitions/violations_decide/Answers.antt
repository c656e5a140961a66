use Rattle.tsn_model.proofs.Validity.{violation_refutes, violation_once}
use Rattle.tsn_laws.proofs.definitions.violations_decide.Goals as goal

pub returns : goal.returns
returns c = λ network offsets violation is_first. (violation_refutes network offsets violation is_first, λ other is_other. violation_once network offsets violation other is_first is_other)
