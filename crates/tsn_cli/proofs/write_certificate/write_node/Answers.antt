use Rattle.std.proofs.Common.{rules, [], ◌≡◌, ◌++◌, string_bytes}
use Rattle.tsn_cert.specs.Node.{tree_node}
use Rattle.tsn_cert.specs.Text.{node_text}
use Rattle.tsn_cli.proofs.PieceLemmas.{begun, none_put, parted_taken}
use Rattle.tsn_cli.proofs.write_certificate.write_node.Goals as goal

pub returns-in_err-more-clause-put : goal.returns-in_err-more-clause-put
returns-in_err-more-clause-put g c = (search rules, none_put _ _ _)

pub returns-in_err-push_str-clause-put : goal.returns-in_err-push_str-clause-put
returns-in_err-push_str-clause-put g c = (search rules, none_put _ _ _)

pub returns-in_err-write_all-clause-put : goal.returns-in_err-write_all-clause-put
returns-in_err-write_all-clause-put g c =
    let part = c.in_err-write_all.ensures.beginning in
    let same : c.as_bytes.result.now ≡ string_bytes c.args.text.now ++ node_text c.args.later (tree_node c.args.node) = search rules in
    (search rules, begun _ _ _ _ _ (parted_taken _ _ [] _ part.0 _ same part.1))
