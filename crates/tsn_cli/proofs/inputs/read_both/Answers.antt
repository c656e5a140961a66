use Rattle.std.proofs.Common.{inr}
use Rattle.tsn_cli.proofs.inputs.read_both.Goals as goal

pub returns-in-Ok-Refused : goal.returns-in-Ok-Refused
returns-in-Ok-Refused g c =
    inr (c.in-Taken.problem, rw c.in-Taken.is at c.in_ok-problem.ensures, rw c.in-Ok-Refused.field-0-is at c.in-Ok-Refused.ensures)

pub returns-in-Err : goal.returns-in-Err
returns-in-Err g c = inr (c.in-Taken.problem, rw c.in-Taken.is at c.in_ok-problem.ensures, c.in-Err.ensures)
