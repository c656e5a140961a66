use Rattle.tsn_model.proofs.Packing.{intervals_apart, apart_intervals}
use Rattle.tsn_laws.proofs.definitions.intervals_decide.Goals as goal

pub returns : goal.returns
returns c = λ a m b n some_m some_n. (intervals_apart a m b n some_m some_n, apart_intervals a m b n)
