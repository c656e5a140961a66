use Rattle.tsn_argue.proofs.SeenLemmas.{same_test}
use Rattle.tsn_argue.proofs.link.is_same.Goals as goal

pub returns : goal.returns
returns c = same_test c.args.one c.args.other c.eq.result c.eq.ensures
