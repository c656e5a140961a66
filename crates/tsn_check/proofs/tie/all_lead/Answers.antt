use Rattle.std.proofs.Common.{arith}
use Rattle.std.proofs.lemmas.Result.{err_from_is_err_and}
use Rattle.std.proofs.lemmas.Grind.{common_steps}
use Rattle.tsn_check.proofs.Ties.{chain_there}
use Rattle.tsn_check.proofs.tie.all_lead.Goals as goal

pub returns-in_err-sum_to : goal.returns-in_err-sum_to
returns-in_err-sum_to c = grind (arith, err_from_is_err_and, chain_there)

pub sum_to-requires : goal.sum_to-requires
sum_to-requires c = grind (arith, common_steps) steps 2000000
