use Rattle.std.proofs.Common.{suc, arith}
use Rattle.tsn_model.proofs.Starts.{starts_one}
use Rattle.tsn_laws.proofs.definitions.starts_are_one.Goals as goal

pub returns : goal.returns
returns c = λ network i route other sent continued k below. starts_one network i route other sent continued (suc k) k (omega arith) below
