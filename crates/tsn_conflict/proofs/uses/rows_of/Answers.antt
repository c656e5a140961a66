use Rattle.std.proofs.Common.{arith}
use Rattle.std.proofs.lemmas.List.{map_push}
use Rattle.tsn_conflict.proofs.Reading.{rows_first-more, uses_of_is}
use Rattle.tsn_conflict.proofs.uses.rows_of.Goals as goal

pub loop-stream-preserved : goal.loop-stream-preserved
loop-stream-preserved c = grind (arith, map_push, rows_first-more)

pub returns : goal.returns
returns c = grind (arith, uses_of_is)
