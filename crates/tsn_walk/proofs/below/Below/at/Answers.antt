use Rattle.std.proofs.Common.{arith}
use Rattle.std.proofs.lemmas.Grind.{common_steps}
use Rattle.tsn_walk.proofs.below.Below.at.Goals as goal

pub descent_at-requires : goal.descent_at-requires
descent_at-requires c = grind (arith, common_steps) steps 2000000
