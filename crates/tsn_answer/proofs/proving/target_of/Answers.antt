use Rattle.std.proofs.Common.{◌+◌, ap}
use Rattle.tsn_answer.proofs.ShownPlans.{target_schedule, target_none}
use Rattle.tsn_answer.proofs.proving.target_of.Goals as goal

pub returns-in-Schedule : goal.returns-in-Schedule
returns-in-Schedule c = target_schedule c.args.timing.now c.args.plan.now _ _ c.in-Schedule.is c.requires

pub returns-in-None : goal.returns-in-None
returns-in-None c = target_none c.args.timing.now c.args.plan.now _ c.in-None.is (ap (λ n. n + 1) c.cycle.ensures.value)
