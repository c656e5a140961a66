use Rattle.std.proofs.Common.{◌≡◌, ◌<◌, Some, map, length, position, sym, ◌∙◌, rules}
use Rattle.std.specs.Prelude.{nat_le}
use Rattle.std.specs.Str.{bytes_eq}
use Rattle.toml.specs.View.{view}
use Rattle.tsn_net.specs.declared.schema.Key.TheVariants as key
use Rattle.tsn_net.specs.Document.{text_at}
use Rattle.tsn_net.specs.Conditions.{joins, delay_over}
use Rattle.tsn_net.proofs.Apart.{found_within, found_view, quick_without, quick_nowhere, quick_between}
use Rattle.tsn_net.proofs.routes.is_quick.Goals as goal

pub offset_bounds-document-k : goal.offset_bounds-document-k
offset_bounds-document-k c =
    let cable_at : position (joins c.args.from.now c.args.to.now) (map view c.args.document.now.cables.now) ≡ Some c.in-Some.k =
    sym (c.in-Some.ensures ∙ c.get.ensures.value ∙ c.args.document.now.cables_numbered c.args.from.now c.args.to.now) in
    let within : c.in-Some.k < length c.args.document.now.cables.now =
    found_within (joins c.args.from.now c.args.to.now) c.args.document.now.cables.now c.in-Some.k cable_at in
    search rules

pub bounds-document-k : goal.bounds-document-k
bounds-document-k c =
    let cable_at : position (joins c.args.from.now c.args.to.now) (map view c.args.document.now.cables.now) ≡ Some c.in-Some.k =
    sym (c.in-Some.ensures ∙ c.get.ensures.value ∙ c.args.document.now.cables_numbered c.args.from.now c.args.to.now) in
    found_within (joins c.args.from.now c.args.to.now) c.args.document.now.cables.now c.in-Some.k cable_at

pub offset_bounds-document-n : goal.offset_bounds-document-n
offset_bounds-document-n c =
    let node_at : position (λ t. bytes_eq c.args.to.now (text_at key.Name t))
    (map view c.args.document.now.nodes.now) ≡ Some c.in-Some-copied.n =
    sym (c.in-Some-copied.ensures ∙ c.get-in-Some.ensures.value ∙ c.args.document.now.nodes_numbered c.args.to.now) in
    let within : c.in-Some-copied.n < length c.args.document.now.nodes.now =
    found_within (λ t. bytes_eq c.args.to.now (text_at key.Name t)) c.args.document.now.nodes.now c.in-Some-copied.n node_at in
    search rules

pub bounds-document-n : goal.bounds-document-n
bounds-document-n c =
    let node_at : position (λ t. bytes_eq c.args.to.now (text_at key.Name t))
    (map view c.args.document.now.nodes.now) ≡ Some c.in-Some-copied.n =
    sym (c.in-Some-copied.ensures ∙ c.get-in-Some.ensures.value ∙ c.args.document.now.nodes_numbered c.args.to.now) in
    found_within (λ t. bytes_eq c.args.to.now (text_at key.Name t)) c.args.document.now.nodes.now c.in-Some-copied.n node_at

pub returns-in-Some-copied : goal.returns-in-Some-copied
returns-in-Some-copied c =
    let nodes = map view c.args.document.now.nodes.now in
    let cables = map view c.args.document.now.cables.now in
    let cable_at : position (joins c.args.from.now c.args.to.now) (map view c.args.document.now.cables.now) ≡ Some c.in-Some.k =
    sym (c.in-Some.ensures ∙ c.get.ensures.value ∙ c.args.document.now.cables_numbered c.args.from.now c.args.to.now) in
    let node_at : position (λ t. bytes_eq c.args.to.now (text_at key.Name t))
    (map view c.args.document.now.nodes.now) ≡ Some c.in-Some-copied.n =
    sym (c.in-Some-copied.ensures ∙ c.get-in-Some.ensures.value ∙ c.args.document.now.nodes_numbered c.args.to.now) in
    let cable = found_view
    (joins c.args.from.now c.args.to.now) c.args.document.now.cables.now c.in-Some.k c.index-document-k.result cable_at in
    let node = found_view
    (λ t. bytes_eq c.args.to.now (text_at key.Name t)) c.args.document.now.nodes.now c.in-Some-copied.n c.index-document-n.result node_at in
    c.takes_at_most.ensures ∙ (λ j. nat_le (delay_over c.args.octets (cable j) (node j)) c.args.slack)
    ∙ sym (quick_between c.args.slack c.args.octets nodes cables c.args.from.now c.args.to.now c.requires.0
    c.requires.1 c.in-Some.k c.in-Some-copied.n cable_at node_at)

pub returns-in-None : goal.returns-in-None
returns-in-None c =
    sym (quick_without c.args.slack c.args.octets (map view c.args.document.now.nodes.now) (map view c.args.document.now.cables.now)
    c.args.from.now c.args.to.now
    (sym (c.in-None.ensures ∙ c.get.ensures.value ∙ c.args.document.now.cables_numbered c.args.from.now c.args.to.now)))

pub returns-in-None-copied : goal.returns-in-None-copied
returns-in-None-copied c =
    sym (quick_nowhere c.args.slack c.args.octets (map view c.args.document.now.nodes.now) (map view c.args.document.now.cables.now)
    c.args.from.now c.args.to.now
    (sym (c.in-None-copied.ensures ∙ c.get-in-Some.ensures.value ∙ c.args.document.now.nodes_numbered c.args.to.now)))
