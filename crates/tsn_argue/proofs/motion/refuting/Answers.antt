use Rattle.std.proofs.Common.{ap, arith}
use Rattle.std.proofs.lemmas.Int.{ints}
use Rattle.tsn_model.specs.Argument.{done_from, refuting}
use Rattle.tsn_argue.proofs.motion.refuting.Goals as goal

pub returns-clause-value : goal.returns-clause-value
unfolding refuting
returns-clause-value c = ap done_from (omega (arith, ints))
