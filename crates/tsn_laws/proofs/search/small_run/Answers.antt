use Rattle.tsn_laws.proofs.SmallSearches as shown
use Rattle.tsn_laws.proofs.search.small_run.Goals as goal

pub returns : goal.returns
returns c = shown.small_run
