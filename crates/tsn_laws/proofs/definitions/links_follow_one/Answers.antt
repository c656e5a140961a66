use Rattle.tsn_model.proofs.Branches.{follow_one}
use Rattle.tsn_laws.proofs.definitions.links_follow_one.Goals as goal

pub returns : goal.returns
returns c = follow_one
