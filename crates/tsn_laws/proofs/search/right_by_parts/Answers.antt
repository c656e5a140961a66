use Rattle.tsn_laws.proofs.Runs.{right_parts, right_from}
use Rattle.tsn_laws.proofs.search.right_by_parts.Goals as goal

pub returns : goal.returns
returns c = λ network history path outcome. (right_parts network history path outcome, λ parts. right_from network history path outcome parts.0 parts.1)
