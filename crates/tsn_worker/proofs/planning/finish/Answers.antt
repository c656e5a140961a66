use Rattle.std.proofs.Common.{arith}
use Rattle.std.proofs.lemmas.Grind.{common_steps}
use Rattle.tsn_worker.proofs.planning.finish.Goals as goal

pub of-requires-clause-formed : goal.of-requires-clause-formed
of-requires-clause-formed c = grind (arith, common_steps) steps 2000000

pub of-requires-clause-network : goal.of-requires-clause-network
of-requires-clause-network c = grind (arith, common_steps) steps 2000000

pub of-requires-clause-limit : goal.of-requires-clause-limit
of-requires-clause-limit c = grind (arith, common_steps) steps 2000000

pub of-requires-clause-done : goal.of-requires-clause-done
of-requires-clause-done c = grind (arith, common_steps) steps 2000000

pub of-requires-clause-known : goal.of-requires-clause-known
of-requires-clause-known c = grind (arith, common_steps) steps 2000000
