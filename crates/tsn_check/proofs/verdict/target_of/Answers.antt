use Rattle.std.proofs.Common.{arith}
use Rattle.tsn_model.specs.Schedule.{target_of}
use Rattle.tsn_cert.specs.declared.plan.Plan.TheVariants as plan
use Rattle.tsn_check.proofs.Verdicts.{span-small}
use Rattle.tsn_check.proofs.verdict.target_of.Goals as goal

pub returns-in-Schedule : goal.returns-in-Schedule
unfolding target_of
returns-in-Schedule c = grind (arith, span-small)

pub returns-in-None : goal.returns-in-None
unfolding target_of
returns-in-None c = grind arith
