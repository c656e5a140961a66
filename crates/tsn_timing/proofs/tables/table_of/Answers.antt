use Rattle.std.proofs.Common.{arith}
use Rattle.tsn_model.proofs.Shifts.{period-pos}
use Rattle.tsn_timing.proofs.tables.table_of.Goals as goal

pub returns : goal.returns
returns c = grind (arith, period-pos)
