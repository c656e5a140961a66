use Rattle.std.proofs.Common.{not, sym, ap, ◌∙◌}
use Rattle.tsn_model.proofs.Rest.{rest_from, place_begun, place_here, place_later, place_past}
use Rattle.tsn_cert.specs.declared.cert.Node.{Node}
use Rattle.tsn_cert.specs.Node.{tree_node}
use Rattle.tsn_codec.specs.Matter.{is_of}
use Rattle.tsn_codec.proofs.cert.first_other.Goals as goal

pub loop-number-init : goal.loop-number-init
loop-number-init c = place_begun (λ (node : Node). not (is_of c.args.format (tree_node node))) c.args.nodes.now

pub returns-then-not-is_of : goal.returns-then-not-is_of
returns-then-not-is_of c =
    place_here (λ (node : Node). not (is_of c.args.format (tree_node node))) _ _ _
    (rest_from c.args.nodes.now c.loop-number.number c.index-nodes-number.result c.loop-number-test.true c.index-nodes-number.is) c.loop-number.number _
    (ap not (sym c.is_of.ensures ∙ c.if-not-is_of.true)) c.loop-number.invariant

pub loop-number-preserved : goal.loop-number-preserved
loop-number-preserved c =
    place_later (λ (node : Node). not (is_of c.args.format (tree_node node))) _ _ _
    (rest_from c.args.nodes.now c.loop-number.number c.index-nodes-number.result c.loop-number-test.true c.index-nodes-number.is) c.loop-number.number _
    (ap not (sym c.is_of.ensures ∙ c.if-not-is_of.false)) c.loop-number.invariant

pub returns : goal.returns
returns c =
    place_past (λ (node : Node). not (is_of c.args.format (tree_node node))) c.args.nodes.now c.loop-number.number
    c.loop-number-test.false _ c.loop-number.invariant
