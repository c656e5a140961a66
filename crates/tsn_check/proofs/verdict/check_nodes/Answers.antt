use Rattle.std.proofs.Common.{arith, ◌≡◌, ◌+◌, [], ◌∷◌, map, ap, ◌∙◌, subst}
use Rattle.std.specs.Prelude.{OnOk, min}
use Rattle.tsn_model.specs.Certificate.{beyond, IsNodeShown}
use Rattle.tsn_model.specs.Places.{Fills}
use Rattle.tsn_cert.specs.Node.{tree_node}
use Rattle.tsn_check.specs.Plans.{offsets_in}
use Rattle.tsn_check.proofs.verdict.check_nodes.Goals as goal

pub returns-in-One-clause-ok : goal.returns-in-One-clause-ok
returns-in-One-clause-ok c = rw c.in-One.is c.check_tree.ensures.ok

pub returns-in-Two-clause-ok : goal.returns-in-Two-clause-ok
unfolding beyond
returns-in-Two-clause-ok c =
    let worse : c.min-target.result ≡ beyond c.args.claim.now.timing.now c.args.claim.now.target = c.min-target.ensures ∙ ap (λ n. min (c.args.claim.now.target + 1) (n + 1)) c.cycle.ensures.value in
    rw c.in-Two.is (subst (λ t. OnOk c.check_tree-in-Two.result (Fills (IsNodeShown c.args.claim.now.timing.now t (offsets_in c.args.claim.now.plan.now)) ([] ∷ []) (map tree_node c.args.nodes.now))) worse c.check_tree-in-Two.ensures.ok)

pub returns-in-Two-clause-err : goal.returns-in-Two-clause-err
unfolding beyond
returns-in-Two-clause-err c = grind arith
