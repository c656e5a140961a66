use Rattle.tsn_model.proofs.Orders.{conflict_decided}
use Rattle.tsn_laws.proofs.definitions.conflicts_are_decided.Goals as goal

pub returns : goal.returns
returns c = λ network formed offsets valid triple conflict. conflict_decided network offsets triple formed valid conflict
