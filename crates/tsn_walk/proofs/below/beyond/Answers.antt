use Rattle.std.proofs.Common.{arith}
use Rattle.tsn_model.specs.Certificate.{beyond}
use Rattle.tsn_walk.proofs.below.beyond.Goals as goal

pub returns : goal.returns
unfolding beyond
returns c = omega (arith, c.min.ensures, c.cycle.ensures.value)
