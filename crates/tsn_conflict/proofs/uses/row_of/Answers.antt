use Rattle.std.proofs.Common.{arith}
use Rattle.std.proofs.lemmas.List.FromFn.{map-range_with_len_more}
use Rattle.tsn_conflict.proofs.uses.row_of.Goals as goal

pub loop-link-preserved : goal.loop-link-preserved
loop-link-preserved c = grind (arith, map-range_with_len_more)
