use Rattle.std.proofs.Common.{arith}
use Rattle.std.proofs.lemmas.Grind.{common_steps}
use Rattle.tsn_chart.proofs.table.write_listeners.Goals as goal

pub write_each-requires-clause-stream : goal.write_each-requires-clause-stream
write_each-requires-clause-stream c = grind (arith, common_steps) steps 2000000
