use Rattle.std.proofs.lemmas.Result.{err_from_is_err_and}
use Rattle.tsn_book.proofs.ledger.Ledger.plan_and_order.Goals as goal

pub returns-in_err-order-clause-plan : goal.returns-in_err-order-clause-plan
returns-in_err-order-clause-plan c =
    let p = err_from_is_err_and c.from_residual.result c.from_residual.ensures.1 in
    rw p.1 tt

pub returns-in_err-order-clause-order : goal.returns-in_err-order-clause-order
returns-in_err-order-clause-order c =
    let p = err_from_is_err_and c.from_residual.result c.from_residual.ensures.1 in
    rw p.1 tt
