use Rattle.std.proofs.Common.{pos, arith}
use Rattle.std.proofs.lemmas.Int.{ints}
use Rattle.tsn_model.specs.Schedule.{offset_of}
use Rattle.tsn_model.proofs.Chains.{closed_chain-le-zero}
use Rattle.tsn_laws.proofs.definitions.positive_cycles_refute.Goals as goal

pub returns : goal.returns
returns c = λ offsets arcs places closed positive held. let sum = closed_chain-le-zero (λ i. pos (offset_of offsets i)) arcs places closed held in omega (arith, ints)
