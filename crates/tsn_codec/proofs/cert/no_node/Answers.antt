use Rattle.std.proofs.Common.{not, Some, None, ap}
use Rattle.tsn_cert.specs.Node.{tree_node}
use Rattle.tsn_cert.specs.declared.refused.Misfit.TheVariants.{NoNode}
use Rattle.tsn_codec.specs.Matter.{is_of}
use Rattle.tsn_codec.proofs.Firsts.{first_or_len}
use Rattle.tsn_codec.proofs.cert.no_node.Goals as goal

pub returns-in-Some : goal.returns-in-Some
returns-in-Some c =
    ap (λ n. NoNode n c.args.format)
    (first_or_len (λ node. not (is_of c.args.format (tree_node node))) c.args.nodes.now (Some c.in-Some.number) c.in-Some.ensures)

pub returns-in-None : goal.returns-in-None
returns-in-None c =
    ap (λ n. NoNode n c.args.format)
    (first_or_len (λ node. not (is_of c.args.format (tree_node node))) c.args.nodes.now None c.in-None.ensures)
