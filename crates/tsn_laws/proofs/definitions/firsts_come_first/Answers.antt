use Rattle.tsn_model.proofs.ListOrder.{firsts_first}
use Rattle.tsn_laws.proofs.definitions.firsts_come_first.Goals as goal

pub returns : goal.returns
returns c = firsts_first
