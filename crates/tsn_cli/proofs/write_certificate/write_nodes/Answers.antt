use Rattle.std.proofs.Common.{◌≡◌, [], ◌∷◌, Option, rules, subst}
use Rattle.std.specs.Prelude.{MatchOption}
use Rattle.tsn_cert.specs.declared.cert.Node.{Node}
use Rattle.tsn_cert.specs.Node.{tree_node}
use Rattle.tsn_cli.proofs.PieceLemmas.{begun, one_more_given, parted_node}
use Rattle.tsn_cli.proofs.write_certificate.write_nodes.Goals as goal

pub returns-in_err-write_node-clause-put : goal.returns-in_err-write_node-clause-put
returns-in_err-write_node-clause-put g c =
    let first = subst (λ (next : Option Node). MatchOption next (c.loop-text.cert.nodes ≡ []) (λ node. c.loop-text.cert.nodes ≡ tree_node node ∷ c.next.new.self.nodes)) c.in-Some.is c.in_ok-node.ensures.node in
    (search rules, begun _ _ _ _ _ (parted_node _ _ _ _ _ _ _ _ _ _ first c.loop-text.invariant.0 c.in_err-write_node.ensures.put.1.1))

pub loop-text-preserved : goal.loop-text-preserved
loop-text-preserved g c =
    let first = subst (λ (next : Option Node). MatchOption next (c.loop-text.cert.nodes ≡ []) (λ node. c.loop-text.cert.nodes ≡ tree_node node ∷ c.next.new.self.nodes)) c.in-Some.is c.in_ok-node.ensures.node in (
      parted_node _ _ _ _ _ _ _ _ _ _ first c.loop-text.invariant.0 c.in_ok-write_node.ensures.put.0,
      search rules,
      search rules,
      λ left. c.loop-text.invariant.3 (one_more_given _ _ _ first c.in_ok-write_node.ensures.form left),
    )
