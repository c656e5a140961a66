use Rattle.std.proofs.Common.{arith}
use Rattle.std.proofs.lemmas.Grind.{common_steps}
use Rattle.tsn_core.proofs.shared.Core.apply_next.Goals as goal

pub apply-requires : goal.apply-requires
apply-requires c = grind (arith, common_steps) steps 2000000
