use Rattle.std.proofs.Common.{arith}
use Rattle.std.proofs.lemmas.Grind.{common_steps}
use Rattle.tsn_worker.proofs.planning.search_alone.Goals as goal

pub search_from-requires-clause-search : goal.search_from-requires-clause-search
search_from-requires-clause-search c = grind (arith, common_steps) steps 2000000

pub search_from-requires-clause-limit : goal.search_from-requires-clause-limit
search_from-requires-clause-limit c = grind (arith, common_steps) steps 2000000

pub search_from-requires-clause-known : goal.search_from-requires-clause-known
search_from-requires-clause-known c = grind (arith, common_steps) steps 2000000
