use Rattle.std.proofs.Common.{arith}
use Rattle.tsn_model.proofs.Validity.{violation_refutes}
use Rattle.tsn_timing.proofs.timing.Timing.is_valid.Goals as goal

pub returns-in-Refused : goal.returns-in-Refused
returns-in-Refused c = grind (arith, violation_refutes)
