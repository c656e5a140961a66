use Rattle.std.proofs.Common.{arith}
use Rattle.std.proofs.lemmas.Grind.{elements}
use Rattle.tsn_chart.proofs.rows.write_label.Goals as goal

pub write_cut_names-requires-text-from : goal.write_cut_names-requires-text-from
write_cut_names-requires-text-from c = grind (arith, elements) steps 2000000

pub write_cut_names-requires-text-to : goal.write_cut_names-requires-text-to
write_cut_names-requires-text-to c = grind (arith, elements) steps 2000000
