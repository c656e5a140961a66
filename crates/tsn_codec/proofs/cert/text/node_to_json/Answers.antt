use Rattle.std.proofs.Common.{◌++◌, ◌∙◌, ap}
use Rattle.serde_json.specs.Written.{comma_if, compact_text, has_float}
use Rattle.tsn_cert.specs.Node.{tree_node}
use Rattle.tsn_codec.proofs.CertWritten.{node_written}
use Rattle.tsn_codec.proofs.cert.text.node_to_json.Goals as goal

pub returns-clause-text : goal.returns-clause-text
returns-clause-text c =
    let is = c.in_ok-value.ensures.value in
    c.in_ok-element_text.ensures (ap has_float is ∙ (node_written (tree_node c.args.node.now)).no_float)
    ∙ ap (λ d. comma_if c.args.later ++ compact_text d) is
