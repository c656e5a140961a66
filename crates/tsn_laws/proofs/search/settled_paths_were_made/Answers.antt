use Rattle.tsn_model.proofs.Histories.{settled_is_made}
use Rattle.tsn_laws.proofs.search.settled_paths_were_made.Goals as goal

pub returns : goal.returns
returns c = settled_is_made
