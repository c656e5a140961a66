use Rattle.tsn_model.proofs.BestBounds.{seen-le-pruned}
use Rattle.tsn_laws.proofs.search.seen_is_enough.Goals as goal

pub returns : goal.returns
returns c = λ network state sound k below path bound leaf above. seen-le-pruned network state sound k below bound above
