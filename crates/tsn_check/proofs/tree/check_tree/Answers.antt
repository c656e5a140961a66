use Rattle.std.proofs.Common.{◌≡◌, List, map, get_or, ap, ◌∙◌, subst, arith, inr}
use Rattle.std.proofs.lemmas.List.{length-map}
use Rattle.tsn_model.specs.declared.Decision.{Decision}
use Rattle.tsn_model.specs.Certificate as tree
use Rattle.tsn_cert.specs.Node.{tree_node}
use Rattle.tsn_model.specs.Certificate.{IsNodeShown}
use Rattle.tsn_check.specs.Plans.{offsets_in}
use Rattle.tsn_check.specs.Turns.{decisions, places_at}
use Rattle.tsn_check.proofs.Walks.{start_places, node_there, walk_more, all_filled, fault_there, unfinished_there}
use Rattle.tsn_check.proofs.Branching.{branch_of}
use Rattle.tsn_check.proofs.tree.check_tree.Goals as goal

pub loop-number-init : goal.loop-number-init
loop-number-init c = grind (arith, start_places)

pub returns-then-not-open-clause-err : goal.returns-then-not-open-clause-err
returns-then-not-open-clause-err c = grind (arith, length-map)

pub judge-requires-clause-turns : goal.judge-requires-clause-turns
judge-requires-clause-turns c =
    rw c.deref.ensures.value c.loop-number.invariant.turns

pub returns-in-Err-clause-err : goal.returns-in-Err-clause-err
returns-in-Err-clause-err c = grind (arith, node_there, fault_there)

pub go_on-requires-clause-conflict : goal.go_on-requires-clause-conflict
go_on-requires-clause-conflict c =
    branch_of c.args.claim.now.timing.now c.args.claim.now.target (offsets_in c.args.claim.now.plan.now) (decisions c.deref.result.now) (tree_node c.index-nodes-number.result) c.in_default.ensures

pub go_on-requires-clause-turns : goal.go_on-requires-clause-turns
go_on-requires-clause-turns c = c.loop-number.invariant.turns

pub loop-number-preserved : goal.loop-number-preserved
loop-number-preserved c =
    let path : List Decision = decisions c.loop-number.path.items in
    let node : tree.Node = tree_node c.index-nodes-number.result in
    let same : node ≡ tree_node (get_or c.args.nodes.now c.loop-number.number c.index-nodes-number.result) = ap tree_node c.index-nodes-number.is in
    let right : IsNodeShown c.args.claim.now.timing.now c.args.claim.now.target (offsets_in c.args.claim.now.plan.now) path node = rw c.deref.ensures.value at c.in_default.ensures in
    let walked = walk_more c.args.claim.now.timing.now c.args.claim.now.target (offsets_in c.args.claim.now.plan.now) c.args.nodes.now c.loop-number.number c.index-nodes-number.result path c.loop-number-test.true
    c.loop-number.invariant.right (c.loop-number.invariant.places ∙ ap (λ is_open. places_at is_open path) c.if-not-open.false)
    (subst (IsNodeShown c.args.claim.now.timing.now c.args.claim.now.target (offsets_in c.args.claim.now.plan.now) path) same right) in
    grind arith

pub returns-then-open-clause-err : goal.returns-then-open-clause-err
returns-then-open-clause-err c =
    let path : List Decision = decisions c.loop-number.path.items in
    let found = unfinished_there c.args.claim.now.timing.now c.args.claim.now.target (offsets_in c.args.claim.now.plan.now) (map tree_node c.args.nodes.now) c.loop-number.number path (omega (arith, length-map c.args.nodes.now tree_node))
    c.loop-number.invariant.right (c.loop-number.invariant.places ∙ ap (λ is_open. places_at is_open path) c.if-open.true) in
    inr (omega (arith, length-map c.args.nodes.now tree_node), found.0, found.1)

pub returns-clause-ok : goal.returns-clause-ok
returns-clause-ok c =
    all_filled c.args.claim.now.timing.now c.args.claim.now.target (offsets_in c.args.claim.now.plan.now) (map tree_node c.args.nodes.now) c.loop-number.number (omega (arith, length-map c.args.nodes.now tree_node))
    c.loop-number.invariant.right (c.loop-number.invariant.places ∙ ap (λ is_open. places_at is_open (decisions c.loop-number.path.items)) c.if-open.false)
