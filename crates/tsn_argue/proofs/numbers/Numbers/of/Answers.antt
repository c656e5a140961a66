use Rattle.std.proofs.lemmas.Result.{err_from_is_err_and}
use Rattle.tsn_argue.proofs.numbers.Numbers.of.Goals as goal

pub returns-in_err-view-clause-base : goal.returns-in_err-view-clause-base
returns-in_err-view-clause-base c =
    let p = err_from_is_err_and c.from_residual.result c.from_residual.ensures.1 in
    rw p.1 tt

pub returns-in_err-view-clause-view : goal.returns-in_err-view-clause-view
returns-in_err-view-clause-view c =
    let p = err_from_is_err_and c.from_residual.result c.from_residual.ensures.1 in
    rw p.1 tt
