use Rattle.tsn_model.proofs.Gathering.{tallies_counted, best-le-tally}
use Rattle.tsn_laws.proofs.search.tallies_add_up.Goals as goal

pub returns : goal.returns
returns c = λ network tellers history counted. (tallies_counted network tellers history counted, best-le-tally network history)
