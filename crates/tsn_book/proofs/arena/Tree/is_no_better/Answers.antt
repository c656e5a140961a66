use Rattle.std.proofs.Common.{arith}
use Rattle.std.proofs.lemmas.Grind.{common_steps}
use Rattle.tsn_book.proofs.arena.Tree.is_no_better.Goals as goal

pub kept-requires-clause-kept : goal.kept-requires-clause-kept
kept-requires-clause-kept c = grind (arith, common_steps) steps 2000000
