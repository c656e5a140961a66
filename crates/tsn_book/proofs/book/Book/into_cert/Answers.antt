use Rattle.std.proofs.Common.{arith}
use Rattle.std.proofs.lemmas.Grind.{common_steps}
use Rattle.std.proofs.lemmas.Result.{err_from_is_err_and}
use Rattle.tsn_book.proofs.book.Book.into_cert.Goals as goal

pub into_spelling-requires : goal.into_spelling-requires
into_spelling-requires c = grind (arith, common_steps) steps 2000000

pub returns-in_err-into_spelling-clause-format : goal.returns-in_err-into_spelling-clause-format
returns-in_err-into_spelling-clause-format c =
    let p = err_from_is_err_and c.from_residual.result c.from_residual.ensures.1 in
    rw p.1 tt

pub returns-in_err-into_spelling-clause-target : goal.returns-in_err-into_spelling-clause-target
returns-in_err-into_spelling-clause-target c =
    let p = err_from_is_err_and c.from_residual.result c.from_residual.ensures.1 in
    rw p.1 tt

pub returns-in_err-into_spelling-clause-accepted : goal.returns-in_err-into_spelling-clause-accepted
returns-in_err-into_spelling-clause-accepted c =
    let p = err_from_is_err_and c.from_residual.result c.from_residual.ensures.1 in
    rw p.1 tt

pub returns-in_err-into_spelling-clause-nodes : goal.returns-in_err-into_spelling-clause-nodes
returns-in_err-into_spelling-clause-nodes c =
    let p = err_from_is_err_and c.from_residual.result c.from_residual.ensures.1 in
    rw p.1 tt

pub returns-in_err-into_spelling-clause-counted : goal.returns-in_err-into_spelling-clause-counted
returns-in_err-into_spelling-clause-counted c =
    let p = err_from_is_err_and c.from_residual.result c.from_residual.ensures.1 in
    rw p.1 tt
