use Rattle.std.proofs.Common.{map, refl, sym, ap}
use Rattle.std.specs.Prelude.{option_and_then}
use Rattle.serde_json.specs.View.{view}
use Rattle.tsn_cert.specs.Json.{each}
use Rattle.tsn_cert.specs.Node.{tree_node}
use Rattle.tsn_cert.specs.Cert.{node_form, node_of}
use Rattle.tsn_codec.proofs.Lists.{list_other}
use Rattle.tsn_codec.proofs.Nodes.{nodes_none, stops_nodes, no_nodes, no_nodes_all}
use Rattle.tsn_codec.proofs.cert.nodes_from.Goals as goal

pub returns-in-Err-NoArray-clause-nodes : goal.returns-in-Err-NoArray-clause-nodes
returns-in-Err-NoArray-clause-nodes c =
    let read = rw c.in-Err-NoArray.field-0-is at c.in-Err-NoArray.ensures in
    nodes_none c.args.format (view c.args.value.now) (ap (option_and_then (each node_of)) (read c.requires))

pub returns-in-Err-NoArray-clause-told : goal.returns-in-Err-NoArray-clause-told
returns-in-Err-NoArray-clause-told c =
    let read = rw c.in-Err-NoArray.field-0-is at c.in-Err-NoArray.ensures in
    read c.requires

pub returns-in-Err-Behind-clause-nodes : goal.returns-in-Err-Behind-clause-nodes
returns-in-Err-Behind-clause-nodes c =
    let read = rw c.in-Err-Behind.field-0-is at c.in-Err-Behind.ensures in
    nodes_none c.args.format (view c.args.value.now) (list_other tree_node node_form c.in-Err-Behind.nodes (view c.args.value.now) (read c.requires))

pub returns-in-Err-Behind-clause-told : goal.returns-in-Err-Behind-clause-told
returns-in-Err-Behind-clause-told c =
    let read = rw c.in-Err-Behind.field-0-is at c.in-Err-Behind.ensures in
    let list = read c.requires in
    let told = rw c.deref-in-Err-Behind.ensures.value at c.no_node-in-Err-Behind.ensures in
    rw told (
      refl,
      no_nodes c.args.format (view c.args.value.now) c.in-Err-Behind.nodes.items list.0 list.1
          (stops_nodes c.args.format (map tree_node c.in-Err-Behind.nodes.items) list.0 list.2),
    )

pub returns-else-has-clause-told : goal.returns-else-has-clause-told
returns-else-has-clause-told c =
    let told = rw c.deref-else-has.ensures.value at c.no_node.ensures in
    let of = rw c.deref.ensures.value at c.if-has.ensures in
    rw told (refl, no_nodes_all c.args.format (view c.args.value.now) c.in-Ok.nodes.items (c.in-Ok.ensures c.requires) (sym of))
