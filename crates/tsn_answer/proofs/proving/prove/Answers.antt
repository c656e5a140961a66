use Rattle.std.proofs.Common.{arith}
use Rattle.std.proofs.lemmas.Grind.{common_steps}
use Rattle.tsn_answer.proofs.proving.prove.Goals as goal

pub about_schedule-requires-clause-timing : goal.about_schedule-requires-clause-timing
about_schedule-requires-clause-timing c = grind (arith, common_steps) steps 2000000

pub about_schedule-requires-clause-right : goal.about_schedule-requires-clause-right
about_schedule-requires-clause-right c = grind (arith, common_steps) steps 2000000

pub about_schedule-requires-clause-bound : goal.about_schedule-requires-clause-bound
about_schedule-requires-clause-bound c = grind (arith, common_steps) steps 2000000

pub about_none-requires-clause-timing : goal.about_none-requires-clause-timing
about_none-requires-clause-timing c = grind (arith, common_steps) steps 2000000

pub about_none-requires-clause-right : goal.about_none-requires-clause-right
about_none-requires-clause-right c = grind (arith, common_steps) steps 2000000

pub about_none-requires-clause-bound : goal.about_none-requires-clause-bound
about_none-requires-clause-bound c = grind (arith, common_steps) steps 2000000
