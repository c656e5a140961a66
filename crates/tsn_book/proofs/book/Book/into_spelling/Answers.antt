use Rattle.std.proofs.Common.{arith}
use Rattle.std.proofs.lemmas.Grind.{common_steps}
use Rattle.tsn_book.proofs.book.Book.into_spelling.Goals as goal

pub into_spelling-requires-clause-agrees : goal.into_spelling-requires-clause-agrees
into_spelling-requires-clause-agrees c = grind (arith, common_steps) steps 2000000
