use Rattle.std.proofs.lemmas.Result.{err_from_is_err_and}
use Rattle.tsn_book.proofs.statuses.Places.new.Goals as goal

pub returns-in_err-vec-clause-origins : goal.returns-in_err-vec-clause-origins
returns-in_err-vec-clause-origins c =
    let p = err_from_is_err_and c.from_residual.result c.from_residual.ensures.1 in
    rw p.1 tt

pub returns-in_err-vec-clause-statuses : goal.returns-in_err-vec-clause-statuses
returns-in_err-vec-clause-statuses c =
    let p = err_from_is_err_and c.from_residual.result c.from_residual.ensures.1 in
    rw p.1 tt
