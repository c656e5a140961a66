use Rattle.std.proofs.Common.{inl, inr}
use Rattle.tsn_outcome.proofs.RunsLemmas.{over_along}
use Rattle.tsn_cli.proofs.prove_command.prove.Goals as goal

pub returns-in-Ok : goal.returns-in-Ok
returns-in-Ok g c =
    let e = c.in-Ok.ensures in
    inl
    (over_along c.prove_to.ensures
    (λ network over. over_along over
    (λ plan files. record { first = c.in-Ok.files.cert; second = c.in-Ok.files.plan; made = (e.cert, e.plan); unfailing = e.failures; over = files })))

pub returns-in-Err : goal.returns-in-Err
returns-in-Err g c = inr (c.in-Err.ensures.refused, c.unwritable.ensures)
