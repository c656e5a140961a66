use Rattle.std.proofs.lemmas.Result.{err_from_is_err_and}
use Rattle.tsn_branch.proofs.prepared.Prepared.of.Goals as goal

pub returns-in_err-conflicts-clause-timing : goal.returns-in_err-conflicts-clause-timing
returns-in_err-conflicts-clause-timing c =
    let p = err_from_is_err_and c.from_residual.result c.from_residual.ensures.1 in
    rw p.1 tt

pub returns-in_err-conflicts-clause-conflicts : goal.returns-in_err-conflicts-clause-conflicts
returns-in_err-conflicts-clause-conflicts c =
    let p = err_from_is_err_and c.from_residual.result c.from_residual.ensures.1 in
    rw p.1 tt

pub returns-in_err-conflicts-clause-loads : goal.returns-in_err-conflicts-clause-loads
returns-in_err-conflicts-clause-loads c =
    let p = err_from_is_err_and c.from_residual.result c.from_residual.ensures.1 in
    rw p.1 tt
