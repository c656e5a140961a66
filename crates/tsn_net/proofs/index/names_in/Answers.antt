use Rattle.std.proofs.Common.{◌≡◌, ◌&&◌, ◌||◌, true, cond, ap, sym, ◌∙◌}
use Rattle.std.specs.Str.{bytes_eq}
use Rattle.indexmap.specs.IndexSet.{contains_by}
use Rattle.toml.specs.Data.{Data}
use Rattle.toml.specs.View.{view}
use Rattle.tsn_net.specs.declared.schema.Key.TheVariants as key
use Rattle.tsn_net.specs.Schema.{holds_at, is_this_text}
use Rattle.tsn_net.specs.Document.{text_at}
use Rattle.tsn_net.proofs.IndexLemmas.{any_table, entered, left_out}
use Rattle.tsn_net.proofs.index.names_in.Goals as goal
use Rattle.tsn_net.proofs.index.names_in.Goals.{then-has_node_kind+in_ok-insert, else-has_node_kind}

pub loop-node-preserved : goal.loop-node-preserved
loop-node-preserved c = λ name.
    let node = view c.node-item.result in
    let is_kind = λ (d : Data). holds_at key.Kind (is_this_text c.args.kind.now) d in
    let before = contains_by (λ k. bytes_eq name k.now) c.loop-node.names in
    let named = bytes_eq (text_at key.Name node) name in
    let after : contains_by (λ k. bytes_eq name k.now) c.if-has_node_kind.names ≡ (before || (named && is_kind node)) =
    elim c.if-has_node_kind.branch [
      | then-has_node_kind+in_ok-insert w ↦
          (λ j. contains_by (λ k. bytes_eq name k.now) (w.names-is j))
          ∙ w.in_ok-insert.ensures.updates.0 (record { ref_ptr = (0, 0); now = name })
          ∙ ap (λ t. cond (bytes_eq t name) true before) w.text_at.ensures
          ∙ entered before named (is_kind node) (sym c.has_node_kind.ensures ∙ w.if-has_node_kind.true)
      | else-has_node_kind w ↦
          (λ j. contains_by (λ k. bytes_eq name k.now) (w.names-is j))
          ∙ left_out before named (is_kind node) (sym c.has_node_kind.ensures ∙ w.if-has_node_kind.false)
    ] in
    any_table (λ (t : Data). bytes_eq (text_at key.Name t) name && is_kind t) c.args.nodes.now c.loop-node.node-index
    c.node-item.result before _ c.loop-node-test.true
    c.node-item.is (c.loop-node.invariant name) after
