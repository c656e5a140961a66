use Rattle.std.proofs.Common.{arith}
use Rattle.std.proofs.lemmas.Grind.{common_steps}
use Rattle.tsn_book.proofs.log.Log.bring.Goals as goal

pub begin-requires : goal.begin-requires
begin-requires c = grind (arith, common_steps) steps 2000000
