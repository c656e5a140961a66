use Rattle.std.proofs.Common.{[]}
use Rattle.tsn_model.proofs.Growths.{in_order, legal_growth}
use Rattle.tsn_model.proofs.Preorders.{in_order_ordered}
use Rattle.tsn_laws.proofs.search.settlements_can_be_ordered.Goals as goal

pub returns : goal.returns
returns c = λ network history legal. let of = legal_growth network history legal in (in_order of.growth, of.same_settled, in_order_ordered [] of.growth of.stands)
