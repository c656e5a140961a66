use Rattle.std.proofs.lemmas.Result.{err_from_is_err_and}
use Rattle.tsn_diff.proofs.spread.Wave.enter.Goals as goal

pub returns-in_err-push-in-Calm-clause-queue : goal.returns-in_err-push-in-Calm-clause-queue
returns-in_err-push-in-Calm-clause-queue c =
    let p = err_from_is_err_and c.from_residual.result c.from_residual.ensures.1 in
    rw p.1 tt

pub returns-in_err-push-in-Calm-clause-formers : goal.returns-in_err-push-in-Calm-clause-formers
returns-in_err-push-in-Calm-clause-formers c =
    let p = err_from_is_err_and c.from_residual.result c.from_residual.ensures.1 in
    rw p.1 tt

pub returns-in_err-push-in-Settled-clause-queue : goal.returns-in_err-push-in-Settled-clause-queue
returns-in_err-push-in-Settled-clause-queue c =
    let p = err_from_is_err_and c.from_residual-in_err-push-in-Settled.result c.from_residual-in_err-push-in-Settled.ensures.1 in
    rw p.1 tt

pub returns-in_err-push-in-Settled-clause-formers : goal.returns-in_err-push-in-Settled-clause-formers
returns-in_err-push-in-Settled-clause-formers c =
    let p = err_from_is_err_and c.from_residual-in_err-push-in-Settled.result c.from_residual-in_err-push-in-Settled.ensures.1 in
    rw p.1 tt
