use Rattle.tsn_model.proofs.Gathering.{tally-this, tally-another}
use Rattle.tsn_laws.proofs.search.tallies_follow.Goals as goal

pub returns : goal.returns
returns c = λ network k history settlement. (tally-this network k history settlement, tally-another network k history settlement)
