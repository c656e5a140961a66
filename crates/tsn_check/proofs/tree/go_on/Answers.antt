use Rattle.std.proofs.Common.{arith}
use Rattle.std.proofs.lemmas.List.{map-append}
use Rattle.std.proofs.lemmas.Grind.{common_steps}
use Rattle.tsn_model.specs.Certificate.{decided}
use Rattle.tsn_check.proofs.Walks.{after_branch, after_leaf, after_tie}
use Rattle.tsn_check.proofs.tree.go_on.Goals as goal

pub returns-in_ok-push-in-Branch-clause-places : goal.returns-in_ok-push-in-Branch-clause-places
unfolding decided
returns-in_ok-push-in-Branch-clause-places c = grind (arith, map-append, after_branch)

pub returns-in-Leaf-clause-places : goal.returns-in-Leaf-clause-places
returns-in-Leaf-clause-places c = grind (arith, after_leaf, after_tie)

pub returns-in_ok-push-in-Branch-clause-turns : goal.returns-in_ok-push-in-Branch-clause-turns
returns-in_ok-push-in-Branch-clause-turns c = grind (arith, common_steps) steps 4000000
