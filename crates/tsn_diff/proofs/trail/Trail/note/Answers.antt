use Rattle.std.proofs.lemmas.Result.{err_from_is_err_and}
use Rattle.tsn_diff.proofs.trail.Trail.note.Goals as goal

pub returns-in_err-reserve-clause-ok : goal.returns-in_err-reserve-clause-ok
returns-in_err-reserve-clause-ok c =
    let p = err_from_is_err_and c.from_residual.result c.from_residual.ensures.1 in
    rw p.1 tt
