use Rattle.std.proofs.lemmas.Bool.{both_ways}
use Rattle.tsn_model.specs.Search.{is_settled}
use Rattle.tsn_model.proofs.Histories.{open_not_settled, parent_settled}
use Rattle.tsn_laws.proofs.search.children_are_new.Goals as goal

pub returns : goal.returns
returns c = λ history path is_open triple side made. both_ways (is_settled history path) (open_not_settled history path is_open) (parent_settled history path triple side made)
