use Rattle.tsn_model.proofs.ListOrder.{comes_before-true, before_is_true, before_one_way, ordered}
use Rattle.tsn_laws.proofs.definitions.lists_are_ordered.Goals as goal

pub returns : goal.returns
returns c = λ xs ys. ((comes_before-true xs ys, before_is_true xs ys), before_one_way xs ys, ordered xs ys)
