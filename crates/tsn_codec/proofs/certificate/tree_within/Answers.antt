use Rattle.tsn_codec.proofs.ToldLemmas.{tree_fits, tree_large}
use Rattle.tsn_codec.proofs.certificate.tree_within.Goals as goal

pub returns-in-Ok-clause-limits : goal.returns-in-Ok-clause-limits
returns-in-Ok-clause-limits c = tree_fits c.args.cert c.in-Ok.cert c.in-Ok.ensures.limits

pub returns-in-Err-clause-limits : goal.returns-in-Err-clause-limits
returns-in-Err-clause-limits c = tree_large c.args.cert c.in-Err.refused c.in-Err.ensures.limits
