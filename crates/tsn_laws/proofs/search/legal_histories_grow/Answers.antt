use Rattle.tsn_model.proofs.Histories.{legal_nil, legal_snoc, legal_front, legal_last}
use Rattle.tsn_laws.proofs.search.legal_histories_grow.Goals as goal

pub returns : goal.returns
returns c = λ network. (
  legal_nil network,
  λ history settlement. (
    (λ legal. (legal_front network history settlement legal, legal_last network history settlement legal)),
    (λ parts. legal_snoc network history settlement parts.0 parts.1),
  ),
)
