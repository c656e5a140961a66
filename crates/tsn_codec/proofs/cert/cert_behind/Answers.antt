use Rattle.std.proofs.Common.{codes, ap, arith}
use Rattle.std.proofs.lemmas.Result.{err_from_is_err_and}
use Rattle.serde_json.specs.View.{view}
use Rattle.tsn_cert.specs.Cert.{cert_of}
use Rattle.tsn_cert.specs.Fault.{named}
use Rattle.tsn_cert.specs.declared.fault.FileFault.TheVariants.{WrongShape}
use Rattle.tsn_codec.specs.Matter.{IsTreeMisfit}
use Rattle.tsn_codec.proofs.JsonLemmas.{get_depth}
use Rattle.tsn_codec.proofs.Whys.{none_given, none_read, tree_no_number, tree_number_told, tree_made, tree_fault, tree_why}
use Rattle.tsn_codec.proofs.cert.cert_behind.Goals as goal

pub returns-in_err-nodes-clause-cert : goal.returns-in_err-nodes-clause-cert
returns-in_err-nodes-clause-cert c =
    let p = err_from_is_err_and c.from_residual.result c.from_residual.ensures.1 in
    rw (p.1, p.2)
    (none_given (IsTreeMisfit (view c.args.value.now)) _ (cert_of (view c.args.value.now)) c.in_err-nodes.ensures.none c.in_err-nodes.ensures.told)

pub returns-in_err-nodes-clause-told : goal.returns-in_err-nodes-clause-told
returns-in_err-nodes-clause-told c =
    let p = err_from_is_err_and c.from_residual.result c.from_residual.ensures.1 in
    rw (p.1, p.2) c.in_err-nodes.ensures.told

pub returns-in_err-target-clause-cert : goal.returns-in_err-target-clause-cert
returns-in_err-target-clause-cert c =
    let p = err_from_is_err_and c.from_residual-in_err-target.result c.from_residual-in_err-target.ensures.1 in
    let m = c.in_ok-nodes.ensures in
    let none = none_read _ _ _ c.in_err-target.ensures.told c.in_err-target.ensures.number in
    rw (p.1, p.2, c.in_err-target.ensures.told)
    (ap (named WrongShape) (tree_no_number (view c.args.value.now) _ _ _ (c.requires.format, m.keys, m.nodes, m.target) none))

pub returns-in_err-target-clause-told : goal.returns-in_err-target-clause-told
returns-in_err-target-clause-told c =
    let p = err_from_is_err_and c.from_residual-in_err-target.result c.from_residual-in_err-target.ensures.1 in
    let m = c.in_ok-nodes.ensures in
    let none = none_read _ _ _ c.in_err-target.ensures.told c.in_err-target.ensures.number in
    rw (p.1, p.2, c.in_err-target.ensures.told) (tree_number_told (view c.args.value.now) _ _ _ (c.requires.format, m.keys, m.nodes, m.target) none)

pub nodes_from-requires : goal.nodes_from-requires
nodes_from-requires c =
    let inside = get_depth (codes "nodes") (view c.args.value.now) (view c.in_ok-nodes.nodes.now) c.in_ok-nodes.ensures.nodes in
    omega (arith, inside, c.requires.deep)

pub returns-in-Ok-clause-cert : goal.returns-in-Ok-clause-cert
returns-in-Ok-clause-cert c =
    let m = c.in_ok-nodes.ensures in
    tree_made (view c.args.value.now) _ _ _ _ _ (c.requires.format, m.keys, m.nodes, m.target) c.in_ok-target.ensures.number c.in-Ok.ensures.nodes

pub returns-in-Err-clause-cert : goal.returns-in-Err-clause-cert
returns-in-Err-clause-cert c =
    let m = c.in_ok-nodes.ensures in
    tree_fault (view c.args.value.now) _ _ _ c.in-Err.refused (c.requires.format, m.keys, m.nodes, m.target) c.in-Err.ensures.nodes

pub returns-in-Err-clause-told : goal.returns-in-Err-clause-told
returns-in-Err-clause-told c =
    let m = c.in_ok-nodes.ensures in
    tree_why (view c.args.value.now) _ _ _ _ c.in-Err.refused (c.requires.format, m.keys, m.nodes, m.target) c.in_ok-target.ensures.number c.in-Err.ensures.told
