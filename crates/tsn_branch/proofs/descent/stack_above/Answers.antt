use Rattle.std.proofs.lemmas.Result.{err_from_is_err_and}
use Rattle.tsn_branch.proofs.descent.stack_above.Goals as goal

pub returns-in_err-net_of-clause-none : goal.returns-in_err-net_of-clause-none
returns-in_err-net_of-clause-none c =
    let p = err_from_is_err_and c.from_residual.result c.from_residual.ensures.1 in
    rw p.1 tt

pub returns-in_err-net_of-clause-releases : goal.returns-in_err-net_of-clause-releases
returns-in_err-net_of-clause-releases c =
    let p = err_from_is_err_and c.from_residual.result c.from_residual.ensures.1 in
    rw p.1 tt

pub returns-in_err-net_of-clause-arcs : goal.returns-in_err-net_of-clause-arcs
returns-in_err-net_of-clause-arcs c =
    let p = err_from_is_err_and c.from_residual.result c.from_residual.ensures.1 in
    rw p.1 tt
