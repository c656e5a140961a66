use Rattle.std.proofs.lemmas.Result.{err_from_is_err_and}
use Rattle.tsn_diff.proofs.solve.Releases.labels.Goals as goal

pub returns-in_err-offsets-in-Zero-clause-offsets : goal.returns-in_err-offsets-in-Zero-clause-offsets
returns-in_err-offsets-in-Zero-clause-offsets c =
    let p = err_from_is_err_and c.from_residual.result c.from_residual.ensures.1 in
    rw p.1 tt

pub returns-in_err-offsets-in-Zero-clause-last : goal.returns-in_err-offsets-in-Zero-clause-last
returns-in_err-offsets-in-Zero-clause-last c =
    let p = err_from_is_err_and c.from_residual.result c.from_residual.ensures.1 in
    rw p.1 tt

pub returns-in_err-offsets-in-Listed-clause-offsets : goal.returns-in_err-offsets-in-Listed-clause-offsets
returns-in_err-offsets-in-Listed-clause-offsets c =
    let p = err_from_is_err_and c.from_residual-in_err-offsets-in-Listed.result c.from_residual-in_err-offsets-in-Listed.ensures.1 in
    rw p.1 tt

pub returns-in_err-offsets-in-Listed-clause-last : goal.returns-in_err-offsets-in-Listed-clause-last
returns-in_err-offsets-in-Listed-clause-last c =
    let p = err_from_is_err_and c.from_residual-in_err-offsets-in-Listed.result c.from_residual-in_err-offsets-in-Listed.ensures.1 in
    rw p.1 tt

pub returns-in_err-last-clause-offsets : goal.returns-in_err-last-clause-offsets
returns-in_err-last-clause-offsets c =
    let p = err_from_is_err_and c.from_residual-in_err-last.result c.from_residual-in_err-last.ensures.1 in
    rw p.1 tt

pub returns-in_err-last-clause-last : goal.returns-in_err-last-clause-last
returns-in_err-last-clause-last c =
    let p = err_from_is_err_and c.from_residual-in_err-last.result c.from_residual-in_err-last.ensures.1 in
    rw p.1 tt
