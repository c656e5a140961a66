use Rattle.tsn_laws.proofs.Ways.{last_works, sent_whole, before_whole, next_whole}
use Rattle.tsn_laws.proofs.definitions.ways_follow.Goals as goal

pub returns : goal.returns
returns c = λ network failed route is k below. (
  last_works network failed route is k,
  sent_whole network failed route is k,
  λ j j_below continues. (before_whole network failed route is j k j_below continues, next_whole network failed route is j k j_below below continues),
)
