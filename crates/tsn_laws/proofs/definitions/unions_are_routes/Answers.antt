use Rattle.tsn_model.proofs.Unions.{union_route, union_talker, union_has, union_one}
use Rattle.tsn_laws.proofs.definitions.unions_are_routes.Goals as goal

pub returns : goal.returns
returns c = λ network.
    ((λ talker routes are. (union_route network talker routes are, union_talker network talker routes are)), union_has, union_one network)
