use Rattle.std.proofs.Common.{arith}
use Rattle.tsn_codec.proofs.Above.{plan_late, plan_within}
use Rattle.tsn_codec.proofs.plan.excess.Goals as goal

pub returns-in-Some : goal.returns-in-Some
returns-in-Some c =
    let first = rw c.list-offsets.ensures at c.in-Some.ensures in
    rw (c.in-Schedule.is, c.list-offsets.ensures) (plan_late c.in-Schedule.flowspan c.in-Schedule.offsets c.in-Some.number (omega arith) first)

pub returns-in-None-first_late : goal.returns-in-None-first_late
returns-in-None-first_late c =
    let none = rw c.list-offsets.ensures at c.in-None-first_late.ensures in
    rw c.in-Schedule.is (plan_within c.in-Schedule.flowspan c.in-Schedule.offsets (omega arith) none)
