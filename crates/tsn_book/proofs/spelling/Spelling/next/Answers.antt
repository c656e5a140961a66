use Rattle.std.proofs.Common.{◌<◌, length, drop, sym, ap, ◌∙◌, arith}
use Rattle.std.specs.List.{slice_index_or}
use Rattle.std.proofs.lemmas.Grind.{common_steps, elements}
use Rattle.std.proofs.lemmas.Result.{err_from_is_err_and}
use Rattle.tsn_cert.specs.Node.{tree_node}
use Rattle.tsn_cert.specs.declared.cert.Cert.{Cert}
use Rattle.tsn_model.specs.Order.{node_of}
use Rattle.tsn_conflict.specs.Outcome.{outcome_of}
use Rattle.tsn_book.specs.Book.{planned}
use Rattle.tsn_book.proofs.Answering.{where_err}
use Rattle.tsn_book.proofs.Giving.{next_known, next_nodes, next_left}
use Rattle.tsn_book.proofs.spelling.Spelling.next.Goals as goal

pub invariant_of-self : goal.invariant_of-self
invariant_of-self c =
    let inside = c.self.inside in
    let low : inside.given < length inside.order.items = omega (arith, c.if-self-len.false, c.len.ensures) in
    next_known inside.order.items inside.given c.index-number.result.now c.self.invariant low c.index-number.ensures
    (record { counted = c.take_node.ensures.counted; others = c.take_node.ensures.others })

pub invariant_of-self-2 : goal.invariant_of-self-2
invariant_of-self-2 c =
    let inside = c.self.inside in
    let low : inside.given < length inside.order.items = omega (arith, c.if-self-len.false, c.len.ensures) in
    next_known inside.order.items inside.given c.index-number.result.now c.self.invariant low c.index-number.ensures
    (record { counted = c.take_node.ensures.counted; others = c.take_node.ensures.others })

pub returns-clause-node : goal.returns-clause-node
returns-clause-node c =
    let inside = c.self.inside in
    let low : inside.given < length inside.order.items = omega (arith, c.if-self-len.false, c.len.ensures) in
    ap (λ (cert : Cert). cert.nodes) (sym c.self.view_is)
    ∙ next_nodes inside.order.items inside.given c.index-number.result.now c.self.invariant low c.index-number.ensures
    (record { counted = c.take_node.ensures.counted; others = c.take_node.ensures.others }) (tree_node c.in_ok-node.node)
    (λ d. c.in_ok-node.ensures.node d ∙ ap (λ p. node_of inside.network (planned p)
    (outcome_of (slice_index_or inside.events.items c.index-number.result.now d).look)) c.as_ref-plan.ensures.value)

pub returns-in_err-node-clause-left_out : goal.returns-in_err-node-clause-left_out
returns-in_err-node-clause-left_out c =
    let inside = c.self.inside in
    let low : inside.given < length inside.order.items = omega (arith, c.if-self-len.false, c.len.ensures) in
    where_err c.from_residual.result (next_left inside.order.items inside.given c.index-number.result.now c.self.invariant low c.index-number.ensures
    (record { counted = c.take_node.ensures.counted; others = c.take_node.ensures.others })
    ∙ ap (λ (cert : Cert). drop 1 cert.nodes) c.self.view_is)

pub returns-then-self-len-clause-node : goal.returns-then-self-len-clause-node
returns-then-self-len-clause-node c = grind (arith, common_steps) steps 2000000

pub returns-clause-left_out : goal.returns-clause-left_out
returns-clause-left_out c = grind (arith, common_steps) steps 2000000

pub take_node-requires-clause-within : goal.take_node-requires-clause-within
take_node-requires-clause-within c = grind (arith, elements) steps 2000000

pub take_node-requires-clause-tie : goal.take_node-requires-clause-tie
take_node-requires-clause-tie c = grind (arith, elements) steps 2000000

pub returns-in_err-node-clause-node : goal.returns-in_err-node-clause-node
returns-in_err-node-clause-node c =
    let p = err_from_is_err_and c.from_residual.result c.from_residual.ensures.1 in
    rw p.1 tt
