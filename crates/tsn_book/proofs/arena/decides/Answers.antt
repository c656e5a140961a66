use Rattle.std.proofs.Common.{arith}
use Rattle.std.proofs.lemmas.Grind.{common_steps}
use Rattle.tsn_book.proofs.arena.decides.Goals as goal

pub loop-decision-preserved : goal.loop-decision-preserved
loop-decision-preserved c = grind (arith, common_steps) steps 2000000
