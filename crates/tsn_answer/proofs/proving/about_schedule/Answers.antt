use Rattle.std.proofs.Common.{arith}
use Rattle.std.proofs.lemmas.Grind.{common_steps}
use Rattle.tsn_answer.proofs.proving.about_schedule.Goals as goal

pub proved-requires : goal.proved-requires
proved-requires c = grind (arith, common_steps) steps 2000000

pub undercut-requires-clause-timing : goal.undercut-requires-clause-timing
undercut-requires-clause-timing c = grind (arith, common_steps) steps 2000000

pub undercut-requires-clause-right : goal.undercut-requires-clause-right
undercut-requires-clause-right c = grind (arith, common_steps) steps 2000000

pub undercut-requires-clause-bound : goal.undercut-requires-clause-bound
undercut-requires-clause-bound c = grind (arith, common_steps) steps 2000000

pub stopped-requires : goal.stopped-requires
stopped-requires c = grind (arith, common_steps) steps 2000000
