use Rattle.std.proofs.Common.{inl, inr}
use Rattle.tsn_outcome.proofs.RunsLemmas.{over_along}
use Rattle.tsn_command.proofs.planning.plan.Goals as goal

pub returns-in-Ok : goal.returns-in-Ok
returns-in-Ok g c =
    let e = c.in-Ok.ensures in
    inl
    (over_along c.plan_to.ensures
    (λ network files. record {
      first = c.in-Ok.files.plan;
      second = c.in-Ok.files.cert;
      made = (e.plan, (e.cert, e.wanted));
      unfailing = e.failures;
      over = files;
    }))

pub returns-in-Err : goal.returns-in-Err
returns-in-Err g c = inr (c.in-Err.ensures.refused, c.unwritable.ensures)
