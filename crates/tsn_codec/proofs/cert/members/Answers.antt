use Rattle.std.proofs.Common.{◌≡◌, true, false, codes, sym, ◌∙◌, arith}
use Rattle.std.proofs.lemmas.Result.{err_from_is_err_and}
use Rattle.serde_json.specs.View.{view}
use Rattle.tsn_codec.proofs.Counted.{tree_apart}
use Rattle.tsn_codec.proofs.Whys.{has_members, tree_no_nodes, tree_nodes_told, tree_no_target, tree_target_told, tree_all, tree_other_count, tree_unknown}
use Rattle.tsn_codec.proofs.cert.members.Goals as goal

pub returns-in_err-nodes-clause-none : goal.returns-in_err-nodes-clause-none
returns-in_err-nodes-clause-none c =
    let p = err_from_is_err_and c.from_residual.result c.from_residual.ensures.1 in
    rw p.1 (tree_no_nodes (view c.args.value.now) c.in_err-nodes.ensures.0)

pub returns-in_err-nodes-clause-told : goal.returns-in_err-nodes-clause-told
returns-in_err-nodes-clause-told c =
    let p = err_from_is_err_and c.from_residual.result c.from_residual.ensures.1 in
    rw (p.1, p.2, c.in_err-nodes.ensures.1) (tree_nodes_told (view c.args.value.now) c.requires c.in_err-nodes.ensures.0)

pub returns-in_err-target-clause-none : goal.returns-in_err-target-clause-none
returns-in_err-target-clause-none c =
    let p = err_from_is_err_and c.from_residual-in_err-target.result c.from_residual-in_err-target.ensures.1 in
    rw p.1 (tree_no_target (view c.args.value.now) c.in_err-target.ensures.0)

pub returns-in_err-target-clause-told : goal.returns-in_err-target-clause-told
returns-in_err-target-clause-told c =
    let p = err_from_is_err_and c.from_residual-in_err-target.result c.from_residual-in_err-target.ensures.1 in
    rw (p.1, p.2, c.in_err-target.ensures.1)
    (tree_target_told (view c.args.value.now) (view c.in_ok-nodes.nodes.now) c.requires c.in_ok-nodes.ensures c.in_err-target.ensures.0)

pub unknown_key-requires-clause-distinct : goal.unknown_key-requires-clause-distinct
unknown_key-requires-clause-distinct c = tree_apart

pub unknown_key-requires-clause-all : goal.unknown_key-requires-clause-all
unknown_key-requires-clause-all c =
    tree_all (view c.args.value.now) (view c.in_ok-nodes.nodes.now) (view c.in_ok-target.target.now) c.requires c.in_ok-nodes.ensures c.in_ok-target.ensures

pub unknown_key-requires-clause-object : goal.unknown_key-requires-clause-object
unknown_key-requires-clause-object c =
    has_members (codes "nodes") (view c.args.value.now) (view c.in_ok-nodes.nodes.now) c.in_ok-nodes.ensures

pub unknown_key-requires-clause-count : goal.unknown_key-requires-clause-count
unknown_key-requires-clause-count c =
    let other : c.is_object_of.result ≡ false = grind arith in
    sym c.is_object_of.ensures ∙ other

pub returns-then-not-is_object_of-clause-none : goal.returns-then-not-is_object_of-clause-none
returns-then-not-is_object_of-clause-none c =
    let other : c.is_object_of.result ≡ false = grind arith in
    tree_other_count (view c.args.value.now) (sym c.is_object_of.ensures ∙ other)

pub returns-then-not-is_object_of-clause-told : goal.returns-then-not-is_object_of-clause-told
returns-then-not-is_object_of-clause-told c =
    tree_unknown (view c.args.value.now) c.requires
    (tree_all (view c.args.value.now) (view c.in_ok-nodes.nodes.now) (view c.in_ok-target.target.now) c.requires c.in_ok-nodes.ensures c.in_ok-target.ensures)
    c.unknown_key.result c.unknown_key.ensures

pub returns-clause-keys : goal.returns-clause-keys
returns-clause-keys c =
    let just : c.is_object_of.result ≡ true = grind arith in
    let all = tree_all (view c.args.value.now) _ _ c.requires c.in_ok-nodes.ensures c.in_ok-target.ensures in
    (all, sym c.is_object_of.ensures ∙ just)
